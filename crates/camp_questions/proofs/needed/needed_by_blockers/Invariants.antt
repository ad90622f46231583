use Rattle.camp_questions.proofs.Words.{take}
use Rattle.camp_questions.proofs.GraphSteps.{AreNeeded}
use Rattle.camp_questions.proofs.needed.needed_by_blockers.Given as goal

abbrev pub invariant-loop-name : goal.invariant-loop-name
invariant-loop-name l = AreNeeded l.catches l.names (take l.name-index l.names) l.all.items
