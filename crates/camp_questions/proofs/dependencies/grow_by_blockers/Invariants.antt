use Rattle.camp_questions.proofs.Words.{length, map, name_of, names_in, CanMoveToFront, AreBlockedBy}
use Rattle.camp_questions.proofs.Growing.{IsGrownSoFar}
use Rattle.camp_questions.proofs.Growths.{left_of}
use Rattle.camp_questions.proofs.dependencies.grow_by_blockers.Given as goal

abbrev pub invariant-loop-grown : goal.invariant-loop-grown
invariant-loop-grown l = IsGrownSoFar (CanMoveToFront l.list) (AreBlockedBy l.list) (names_in l.fn.names) (names_in l.grown)

abbrev pub decreases-loop-grown : goal.decreases-loop-grown
decreases-loop-grown l = length (left_of (map name_of l.list) (names_in l.grown))
