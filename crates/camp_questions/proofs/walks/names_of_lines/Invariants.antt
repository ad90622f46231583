use Rattle.camp_questions.proofs.Words.{known_in}
use Rattle.camp_questions.proofs.LineNames.{IsAlong}
use Rattle.camp_questions.proofs.walks.names_of_lines.Given as goal

abbrev pub invariant-loop-catch : goal.invariant-loop-catch
invariant-loop-catch l = IsAlong l.path l.catches l.catch-iterator (known_in l.walk)
