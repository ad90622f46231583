use Rattle.camp_questions.proofs.Words.{◌≤◌, drop, length, AddsAll}
use Rattle.camp_questions.proofs.passing.seen_before.Given as goal

abbrev pub invariant-loop-left : goal.invariant-loop-left
invariant-loop-left l = record {
  within : l.left ≤ length l.changes;
  most : 1 ≤ l.most;
  added : AddsAll (drop l.left l.changes) l.x l.seen;
}

abbrev pub decreases-loop-left : goal.decreases-loop-left
decreases-loop-left l = l.left
