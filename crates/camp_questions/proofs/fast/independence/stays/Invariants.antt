use Rattle.camp_questions.proofs.Words.{drop, CatchCommutesBeforeAll}
use Rattle.camp_questions.proofs.fast.independence.stays.Given as goal

abbrev pub invariant-loop-at : goal.invariant-loop-at
invariant-loop-at l = CatchCommutesBeforeAll (drop l.at l.going) l.catch l.catch (drop l.at l.going)
