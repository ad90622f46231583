use Rattle.camp_seq.proofs.Words.{◌≡◌, List, IsTrue, Label, Named, is_above, untried, Fronts}
use Rattle.camp_seq.proofs.orders.move_least_to_front.Given as goal

abbrev pub invariant-loop-label : goal.invariant-loop-label
invariant-loop-label l = record {
  as_was : l.items ≡ l.initial.items;
  above : (other : Label) (y : Named) (t : List Named) → Fronts other l.items y t → IsTrue (is_above l.tried other);
}

abbrev pub decreases-loop-label : goal.decreases-loop-label
decreases-loop-label l = untried l.tried l.items
