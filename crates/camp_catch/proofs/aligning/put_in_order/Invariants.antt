use Rattle.std.proofs.Common.{◌≤◌, length, take, drop}
use Rattle.camp_catch.proofs.MoveSteps.{IsAlignedUpTo}
use Rattle.camp_catch.proofs.aligning.put_in_order.Given as goal

abbrev pub invariant-loop-at : goal.invariant-loop-at
invariant-loop-at l = record {
  within : l.at ≤ length l.list;
  up : IsAlignedUpTo l.order l.initial.list (take l.at l.list) (drop l.at l.order) (drop l.at l.list);
}
