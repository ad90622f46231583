use Rattle.camp_questions.proofs.Words.{◌≡◌, filter, needs_index, indexes_below}
use Rattle.camp_questions.proofs.nodes.needed_indexes.Given as goal

abbrev pub invariant-loop-place : goal.invariant-loop-place
invariant-loop-place l = l.places.items ≡ filter (needs_index l.marks l.at) (indexes_below l.place)
