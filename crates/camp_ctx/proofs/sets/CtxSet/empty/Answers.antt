use Rattle.camp_ctx.proofs.Words.{sym, subst, AreKeyed}
use Rattle.camp_ctx.proofs.SetSteps.{keyed_empty}
use Rattle.camp_ctx.proofs.sets.CtxSet.empty.Goals as goal

pub invariant_of-result : goal.invariant_of-result
invariant_of-result c = subst AreKeyed (sym c.new.ensures.exact) keyed_empty
