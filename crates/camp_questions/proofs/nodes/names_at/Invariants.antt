use Rattle.camp_questions.proofs.Words.{◌≡◌, map, take, name_at_index}
use Rattle.camp_questions.proofs.nodes.names_at.Given as goal

abbrev pub invariant-loop-place : goal.invariant-loop-place
invariant-loop-place l = l.chosen.items ≡ map (name_at_index l.names) (take l.place-index l.places)
