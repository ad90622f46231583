use Rattle.camp_questions.proofs.Words.{drop, AddsAll}
use Rattle.camp_questions.proofs.passing.stays_from.Given as goal

abbrev pub invariant-loop-at : goal.invariant-loop-at
invariant-loop-at l = AddsAll (drop l.at l.changes) l.x l.x
