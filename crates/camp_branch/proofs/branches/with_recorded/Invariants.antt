use Rattle.camp_branch.proofs.Words.{◌≡◌, ◌+◌, ◌++◌, drop, recorded}
use Rattle.camp_branch.proofs.branches.with_recorded.Given as goal

abbrev pub invariant-loop-change : goal.invariant-loop-change
invariant-loop-change l = record {
  so_far : l.new.items ++ recorded l.name l.place (drop l.change-index l.changes) ≡ recorded l.name 1 l.changes;
  at : l.place ≡ l.change-index + 1;
}
