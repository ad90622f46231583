use Rattle.camp_share.proofs.Words.{T, length, sym, ap, subst, ◌∙◌, arith, is_sorted, joined, offset}
use Rattle.std.proofs.lemmas.List.Edits.{length-remove}
use Rattle.camp_share.proofs.Entries.{at_within}
use Rattle.camp_share.proofs.MapLemmas.{removal, nothing_removed}
use Rattle.camp_share.proofs.maps.removed_in_parts.Goals as goal

pub of_parts-requires-clause-len : goal.of_parts-requires-clause-len
of_parts-requires-clause-len g c =
    let whole = joined c.parts-parts.result.now in
    let place = offset c.parts-parts.result.now c.in-Ok.index c.in-Ok.place in
    let within = at_within whole c.args.key.now place c.in-Ok.ensures.found.2 in
    omega (arith, length-remove whole place within, ap length c.in_ok-parts-in-Ok.ensures.items, ap length c.parts-parts.ensures.items, c.len.ensures.exact)

pub returns-in_ok-parts-in-Ok : goal.returns-in_ok-parts-in-Ok
returns-in_ok-parts-in-Ok g c =
    let sorted = subst (λ es. T (is_sorted g.K.Ord.cmp es)) (sym c.parts-parts.ensures.items) c.requires in
    removal _ g.met.K.Ord.total _ _ c.parts-parts.ensures.items sorted g.met.K.Key.same c.args.key.now _ c.of_parts.result c.in-Ok.ensures.found.2 (c.of_parts.ensures ∙ c.in_ok-parts-in-Ok.ensures.items)

pub returns-in_ok-share-in-Err : goal.returns-in_ok-share-in-Err
returns-in_ok-share-in-Err g c =
    let R = g.K.Ord.cmp in
    let sorted = subst (λ es. T (is_sorted R es)) (sym c.parts-parts.ensures.items) c.requires in (
      subst (λ es. T (is_sorted R es)) (sym c.in_ok-share-in-Err.ensures) c.requires,
      nothing_removed R g.met.K.Ord.total _ _ c.parts-parts.ensures.items sorted g.met.K.Key.same c.args.key.now _ _ c.in-Err.ensures.absent.1 c.in_ok-share-in-Err.ensures,
    )
