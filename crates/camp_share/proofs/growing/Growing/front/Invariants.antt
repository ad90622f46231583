use Rattle.camp_share.proofs.Words.{◌≡◌, ◌+◌, length, take, joined}
use Rattle.camp_share.proofs.growing.Growing.front.Given as goal

abbrev pub invariant-loop-part : goal.invariant-loop-part
invariant-loop-part g l = record {
  passed : l.closed.items ≡ take l.part-index l.part-items;
  left : l.left + length (joined (take l.part-index l.part-items)) ≡ l.count;
}
