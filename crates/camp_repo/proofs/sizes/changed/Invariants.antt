use Rattle.camp_repo.proofs.Words.{◌≡◌, drop, changed}
use Rattle.camp_repo.proofs.sizes.changed.Given as goal

abbrev pub invariant-loop-change : goal.invariant-loop-change
invariant-loop-change l = changed (drop l.change-index l.changes) l.next ≡ changed l.changes l.tree
