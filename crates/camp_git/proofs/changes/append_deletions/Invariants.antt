use Rattle.camp_git.proofs.Growing.{GoesOn}
use Rattle.camp_git.specs.Inside.Commits.{deletion_of, paths_in}
use Rattle.camp_git.proofs.changes.append_deletions.Given as goal

abbrev pub invariant-loop-entry : goal.invariant-loop-entry
invariant-loop-entry l = GoesOn (deletion_of l.old l.new) (paths_in l.paths) l.initial.text.items l.text.items l.entry-iterator
