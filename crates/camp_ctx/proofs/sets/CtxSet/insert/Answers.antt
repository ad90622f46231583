use Rattle.camp_ctx.proofs.Words.{sym, ap, ◌∙◌, subst, AreKeyed, context_key}
use Rattle.camp_ctx.proofs.SetSteps.{keyed_with}
use Rattle.camp_ctx.proofs.sets.CtxSet.insert.Goals as goal

pub invariant_of-result : goal.invariant_of-result
invariant_of-result c =
    subst AreKeyed (sym c.in_ok-members.ensures.exact) (keyed_with _ _ _ (c.new-key.ensures ∙ c.key.ensures.exact ∙ ap context_key (sym c.in_ok-try_clone.ensures.exact)) c.self.invariant)
