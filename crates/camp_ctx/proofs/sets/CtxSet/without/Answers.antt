use Rattle.camp_ctx.proofs.Words.{sym, subst, AreKeyed}
use Rattle.camp_ctx.proofs.SetSteps.{keyed_without}
use Rattle.camp_ctx.proofs.sets.CtxSet.without.Goals as goal

pub invariant_of-result : goal.invariant_of-result
invariant_of-result c = subst AreKeyed (sym c.in_ok-members.ensures.exact) (keyed_without _ _ c.self.invariant)
