use Rattle.std.proofs.Common.{eqb-true}
use Rattle.std.proofs.lemmas.Bool.Decides.{nat_tests}
use Rattle.camp_ctx.proofs.Words.{◌≡◌, ◌∙◌, ◌<◌, [], length, sym, subst, arith, nil_from_length, AddsAll, Named, List}
use Rattle.camp_seq.specs.Chains.{Chain}
use Rattle.camp_ctx.proofs.LinkSteps.{all_linked, chain_linked}
use Rattle.camp_ctx.proofs.fast.links.becomes_context.Goals as goal

pub returns : goal.returns
returns c =
    let r : List Named = c.items-items.result.now in
    let s : List Named = c.items-context.result.now in
    let there = sym c.is_empty.ensures ∙ c.if-is_empty.false in
    let none = sym c.is_empty-2.ensures ∙ c.if-not-is_empty.false in
    let some : 0 < length r = grind (arith, nat_tests) in
    let nothing : s ≡ [] = nil_from_length s (grind (arith, nat_tests)) in
    record {
      some = λ yes. subst (λ l. 0 < length l) c.items-items.ensures.exact some;
      chain = λ yes. subst Chain c.items-items.ensures.exact (chain_linked r s c.patch.result.now c.links_from.result nothing (eqb-true _ _ yes) some c.links_from.ensures);
      added = λ yes. subst (λ l. AddsAll l c.args.x.now (record { context = l; patch = c.args.x.now.patch })) c.items-items.ensures.exact
          (all_linked r s c.args.x.now c.patch.result.now c.links_from.result nothing (c.items-context.ensures.exact ∙ c.context.ensures.exact) c.patch.ensures.exact (eqb-true _ _ yes) c.links_from.ensures);
    }
