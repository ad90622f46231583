use Rattle.camp_import.proofs.CommitTreeLemmas.{TreeSoFar}
use Rattle.camp_import.proofs.commit_trees.tree_after.Given as goal

abbrev pub invariant-changes : goal.invariant-changes
invariant-changes l = TreeSoFar l.changes l.index l.old l.changed
