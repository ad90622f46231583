use Rattle.camp_questions.proofs.Words.{◌≡◌, ◌≤◌, drop, filter, length, NoneBeforeDepends, indexes_below}
use Rattle.camp_questions.proofs.PlacedNeeds.{left_over}
use Rattle.camp_questions.proofs.nodes.direct_needs.Given as goal

abbrev pub invariant-loop-settled : goal.invariant-loop-settled
invariant-loop-settled l = record {
  within : l.left ≤ length l.all;
  places : l.places.items ≡ filter (left_over l.names l.patch (drop l.left l.all)) (indexes_below (length l.names));
  settled : NoneBeforeDepends l.in_place l.places.items l.settled;
}

abbrev pub decreases-loop-settled : goal.decreases-loop-settled
decreases-loop-settled l = l.left
