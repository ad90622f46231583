use Rattle.camp_git.proofs.Words.{entries, map_of, slice_cmp, nat_cmp}
use Rattle.camp_git.proofs.HeldTrees.{AreFree}
use Rattle.camp_git.proofs.folders.first_unheld.Given as goal

abbrev pub invariant-loop-entry : goal.invariant-loop-entry
invariant-loop-entry l = AreFree l.old l.new (entries (map_of (slice_cmp nat_cmp) l.paths)) l.entry-iterator
