use Rattle.camp_share.proofs.Words.{◌≡◌, ◌+◌, ◌<◌, ◌≤◌, length, drop, joined}
use Rattle.camp_share.proofs.part_lists.PartList.near_end.Given as goal

abbrev pub invariant-loop-at : goal.invariant-loop-at
invariant-loop-at g l = record {
  within : l.at ≤ length l.ends;
  before : l.from < l.start;
  left : l.start + length (joined (drop l.at l.ends)) ≡ length l.self;
}
