use Rattle.camp_questions.proofs.Words.{take, AllCommuteUnchanged}
use Rattle.camp_questions.proofs.fast.independence.all_stay.Given as goal

abbrev pub invariant-loop-catch : goal.invariant-loop-catch
invariant-loop-catch l = AllCommuteUnchanged l.going (take l.catch-index l.catches)
