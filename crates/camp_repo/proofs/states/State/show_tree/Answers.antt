use Rattle.camp_repo.proofs.DecideSteps.{tree_shown}
use Rattle.camp_repo.proofs.states.State.show_tree.Goals as goal

pub returns-clause-exact : goal.returns-clause-exact
returns-clause-exact c =
    tree_shown c.args.self.now c.args.branch.now c.in_Some-branch.branch.now c.tree.result.now c.in_ok-tree.tree c.in_Some-branch.ensures.value c.tree.ensures.exact c.in_ok-tree.ensures.exact
