use Rattle.camp_coding.specs.GitTrees.{EncodesTree, GitEntries}
use Rattle.camp_import.proofs.CommitTreeLemmas.{EmptiesSoFar}
use Rattle.camp_import.proofs.commit_trees.remove_below.Given as goal

abbrev pub invariant-files : goal.invariant-files
invariant-files l = (git : GitEntries) → EncodesTree git l.old.tree → EmptiesSoFar l.prefix.items git l.old l.file-iterator l.changed
