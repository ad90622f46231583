use Rattle.camp_ctx.proofs.Words.{◌≡◌, ap, sym, ◌∙◌, None, Some, MatchOption, len, slice_get, ContextedPatch, only}
use Rattle.camp_ctx.proofs.SetSteps.{members_of, len-only, is_only, none_only}
use Rattle.camp_ctx.proofs.sets.CtxSet.sole.Goals as goal

pub returns-then-len-ne1 : goal.returns-then-len-ne1
returns-then-len-ne1 c = record { exact = λ x is. c.if-len-ne1.true (c.len.ensures.value ∙ ap len is ∙ len-only x) }

pub returns : goal.returns
returns c = record {
  exact =
      let set = c.args.self.now in
      let one = sym c.len.ensures.value ∙ c.if-len-ne1.false in
      elim c.at.result as (λ found. MatchOption found (slice_get (members_of set) 0 ≡ None) (λ x. slice_get (members_of set) 0 ≡ Some x.now) → MatchOption found ((x : ContextedPatch) → ¬ (set ≡ only x)) (λ x. set ≡ only x.now)) [
        | None ↦ λ none x. none_only set x none
        | Some x ↦ λ first. is_only set x.now c.len.ensures.keyed one first
      ] c.at.ensures.exact;
}
