use Rattle.camp_share.proofs.Words.{T, sym, subst, ◌∙◌, is_sorted, arith, common_steps}
use Rattle.camp_share.proofs.MapLemmas.{insertion, replacement}
use Rattle.camp_share.proofs.maps.inserted_in_parts.Goals as goal

pub returns-in_ok-parts-in-Ok : goal.returns-in_ok-parts-in-Ok
returns-in_ok-parts-in-Ok g c =
    let sorted = subst (λ es. T (is_sorted g.K.Ord.cmp es)) (sym c.parts-parts.ensures.items) c.requires in
    replacement _ g.met.K.Ord.total _ _ c.parts-parts.ensures.items sorted (c.args.key, c.args.value) _ c.of_parts.result c.in-Ok.ensures.found.2 (c.of_parts.ensures ∙ c.in_ok-parts-in-Ok.ensures.items)

pub returns-in_ok-parts-in-Err : goal.returns-in_ok-parts-in-Err
returns-in_ok-parts-in-Err g c =
    let sorted = subst (λ es. T (is_sorted g.K.Ord.cmp es)) (sym c.parts-parts.ensures.items) c.requires in
    insertion _ g.met.K.Ord.total _ _ c.parts-parts.ensures.items sorted (c.args.key, c.args.value) _ c.of_parts-in-Err.result c.in-Err.ensures.absent.1 (c.of_parts-in-Err.ensures ∙ c.in_ok-parts-in-Err.ensures.items)

pub of_parts-requires-clause-len : goal.of_parts-requires-clause-len
of_parts-requires-clause-len g c = grind (arith, common_steps)

pub of_parts-requires-in-Err-clause-len : goal.of_parts-requires-in-Err-clause-len
of_parts-requires-in-Err-clause-len g c = grind (arith, common_steps)
