use Rattle.camp_history.proofs.Words.{length, All, Shows}
use Rattle.camp_history.proofs.SnapshotLemmas.{Compared}
use Rattle.camp_history.proofs.heads.Head.begins_with_seen.Given as goal

abbrev pub invariant-loop-mark : goal.invariant-loop-mark
invariant-loop-mark g l = record {
  compared : Compared l.seat.marks l.snapshot l.marks l.others;
  stored : All (λ mark. Shows l.self.store mark.call) l.marks;
  others_stored : All (λ mark. Shows l.self.store mark.call) l.others;
}

abbrev pub decreases-loop-mark : goal.decreases-loop-mark
decreases-loop-mark g l = length l.marks
