use Rattle.camp_ctx.proofs.Words.{◌≡◌, ◌+◌, ◌-◌, drop, subst, arith, PassesBy, HasNoResult, PassesByAll}
use Rattle.camp_ctx.proofs.AddResults.{one_passing_by}
use Rattle.camp_ctx.proofs.AddSteps.{none_at_step}
use Rattle.camp_ctx.proofs.contexted.Contexted.past.Goals as goal

pub returns-in-None : goal.returns-in-None
returns-in-None c =
    let r = c.items-items.result.now in
    let i = c.loop-at.at - 1 in
    let e : c.loop-at.at ≡ i + 1 = omega arith in
    let taken = subst (λ n. PassesByAll (drop n r) c.args.x.now c.loop-at.passed) e c.loop-at.invariant in
    let never = rw c.in-None.is at c.in_ok-past_one.ensures.exact in
    record { exact = subst (λ s. HasNoResult (PassesByAll s) c.args.x.now) c.items-items.ensures.exact (none_at_step PassesBy one_passing_by r i _ _ _ (omega arith) c.index-items-at.is taken never) }
