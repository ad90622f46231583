use Rattle.camp_seq.proofs.Words.{◌+◌, ◌≤◌, length, PartsFrom}
use Rattle.camp_seq.proofs.splits.gather.Given as goal

abbrev pub invariant-loop-at : goal.invariant-loop-at
invariant-loop-at l = record {
  parts : PartsFrom l.labels l.initial.items l.at l.count l.items;
  bound : l.at + l.count ≤ length l.initial.items;
}
