use Rattle.camp_ctx.proofs.SetSteps.{member_at}
use Rattle.camp_ctx.proofs.sets.CtxSet.at.Goals as goal

pub returns-in-Some : goal.returns-in-Some
returns-in-Some c = record { exact = member_at _ _ _ _ c.self.view_is (rw c.in-Some.is at c.at.ensures.exact) }
