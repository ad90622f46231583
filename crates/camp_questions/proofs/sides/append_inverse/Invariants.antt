use Rattle.camp_questions.proofs.Words.{◌≡◌, ◌++◌, drop, inverse_all}
use Rattle.camp_questions.proofs.sides.append_inverse.Given as goal

abbrev pub invariant-loop-at : goal.invariant-loop-at
invariant-loop-at l = l.list ≡ l.fn.list ++ inverse_all (drop l.at l.effect)
