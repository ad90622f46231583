use Rattle.camp_questions.proofs.Words.{◌≡◌, ◌++◌, unresolved_in}
use Rattle.camp_questions.proofs.open_conflicts.collected.Given as goal

abbrev pub invariant-loop-catch : goal.invariant-loop-catch
invariant-loop-catch l = l.pairs.items ++ unresolved_in l.seen l.catch-iterator ≡ unresolved_in l.seen l.catches
