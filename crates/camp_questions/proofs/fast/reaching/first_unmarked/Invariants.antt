use Rattle.camp_questions.proofs.Words.{AreMarkedBelow}
use Rattle.camp_questions.proofs.fast.reaching.first_unmarked.Given as goal

abbrev pub invariant-loop-place : goal.invariant-loop-place
invariant-loop-place l = AreMarkedBelow l.marks l.place
