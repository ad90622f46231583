use Rattle.camp_questions.proofs.Words.{◌≡◌, drop, with_needs}
use Rattle.camp_questions.proofs.pictures.needed.Given as goal

abbrev pub invariant-loop-at : goal.invariant-loop-at
invariant-loop-at l = l.needed.items ≡ with_needs (drop l.at l.nodes) l.names
