use Rattle.camp_questions.proofs.Words.{◌≡◌, map, take, is_among, names_in}
use Rattle.camp_questions.proofs.needed.marks_of.Given as goal

abbrev pub invariant-loop-name : goal.invariant-loop-name
invariant-loop-name l = l.marks.items ≡ map (is_among (names_in l.set)) (take l.name-index l.names)
