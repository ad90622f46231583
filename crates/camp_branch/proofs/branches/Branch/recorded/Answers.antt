use Rattle.camp_branch.proofs.Words.{subst, ap, ◌∙◌, LeadsTo, has_patch}
use Rattle.camp_branch.proofs.BranchFields.{Grown, grown, recorded_indexed}
use Rattle.camp_branch.proofs.branches.Branch.recorded.Goals as goal

made : (c : goal.In_ok-names) → Grown c.in_ok-catches.catches c.args.tree
made c =
    let tree = c.self.inside.tree in
    let kept = c.self.invariant.kept in
    grown c.self.inside.catches _ c.args.name.now c.args.changes.now tree c.args.tree c.self.invariant.lawful kept (ap (λ l. has_patch l c.args.name.now) c.self.view_is ∙ c.requires.is_new) c.requires.some c.requires.few (c.requires.leads tree (subst (λ l. LeadsTo l tree) c.self.view_is kept)) c.in_ok-catches.ensures

pub invariant_of-result : goal.invariant_of-result
invariant_of-result c =
    record {
      lawful = (made c).lawful;
      named = recorded_indexed _ _ c.self.inside.catches _ c.args.name.now c.args.changes.now c.self.invariant.named c.in_ok-names.ensures.exact c.in_ok-catches.ensures c.requires.some;
      kept = (made c).kept;
    }
