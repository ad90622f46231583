use Rattle.camp_seq.specs.Inside.FirstInOrder.{CommutedRightInOrder}
use Rattle.camp_seq.proofs.fast.insertions.commute_right_in_order.Given as goal

abbrev pub invariant-loop-at : goal.invariant-loop-at
invariant-loop-at l = CommutedRightInOrder l.initial.s l.initial.a l.at l.s l.a
