use Rattle.camp_seq.proofs.Words.{List, take, drop, ◌++◌, Named, Norm}
use Rattle.camp_seq.proofs.orders.order_by_selection.Given as goal

abbrev pub invariant-loop-at : goal.invariant-loop-at
invariant-loop-at l = (t : List Named) → Norm (drop l.at l.items) t → Norm l.initial.items (take l.at l.items ++ t)
