use Rattle.camp_share.proofs.Words.{◌≡◌, ◌+◌, length, take, drop, joined}
use Rattle.camp_share.proofs.changes.place_of.Given as goal

abbrev pub invariant-loop-part : goal.invariant-loop-part
invariant-loop-part g l = record {
  rest : drop l.count l.parts ≡ l.part-iterator;
  left : l.left + length (joined (take l.count l.parts)) ≡ l.index;
}
