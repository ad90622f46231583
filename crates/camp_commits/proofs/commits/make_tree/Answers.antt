use Rattle.std.proofs.Common.{Ok, subst}
use Rattle.camp_base.specs.Trees.{Files}
use Rattle.camp_import.specs.CommitTrees.{GivesTree}
use Rattle.camp_commits.proofs.commits.make_tree.Goals as goal

pub returns-in-Ok : goal.returns-in-Ok
returns-in-Ok c =
    subst (λ (old : Files). GivesTree old c.args.changes.now (Ok c.in-Ok.changed)) c.in_ok-old.ensures c.in-Ok.ensures.exact
