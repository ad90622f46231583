use Rattle.camp_questions.proofs.Words.{drop}
use Rattle.camp_questions.proofs.SeenLabels.{IsSoFar}
use Rattle.camp_questions.proofs.sides.labels_seen.Given as goal

abbrev pub invariant-loop-at : goal.invariant-loop-at
invariant-loop-at l = IsSoFar (drop l.at l.catches.items) l.undone l.seen
