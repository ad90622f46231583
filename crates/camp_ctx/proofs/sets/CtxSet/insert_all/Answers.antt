use Rattle.camp_ctx.proofs.Words.{sym, subst, take, ◌∙◌, AreKeyed}
use Rattle.camp_ctx.proofs.SetSteps.{keyed_with_all}
use Rattle.camp_ctx.proofs.sets.CtxSet.insert_all.Goals as goal

pub invariant_of-result : goal.invariant_of-result
invariant_of-result c =
    let keyed = keyed_with_all c.args.self.now (take c.loop-member.member-index c.args.more.now) (subst AreKeyed c.self.view_is c.self.invariant) in
    subst AreKeyed (sym (c.in_ok-members-2.ensures.exact ∙ c.loop-member.invariant)) keyed
