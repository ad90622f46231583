use Rattle.camp_seq.proofs.Words.{label_of, take}
use Rattle.camp_seq.specs.Inside.NextInOrder.{IsInOrder}
use Rattle.camp_seq.proofs.fast.looks.greatest_in_order.Given as goal

abbrev pub invariant-loop-at : goal.invariant-loop-at
invariant-loop-at l = IsInOrder (take l.at l.items) (label_of l.greatest)
