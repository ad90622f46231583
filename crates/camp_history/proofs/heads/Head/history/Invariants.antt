use Rattle.camp_history.proofs.Words.{◌≡◌, ◌++◌, ◌+◌, ◌≤◌, length, map, All, Shows, seat_and_call, vec_capacity, vec_len}
use Rattle.camp_history.proofs.heads.Head.history.Given as goal

abbrev pub invariant-loop-mark : goal.invariant-loop-mark
invariant-loop-mark g l = record {
  so_far : l.history.items ++ map seat_and_call l.marks ≡ map seat_and_call l.seat.marks;
  stored : All (λ mark. Shows l.self.store mark.call) l.marks;
  room : length l.marks + vec_len l.history ≤ vec_capacity l.history;
}

abbrev pub decreases-loop-mark : goal.decreases-loop-mark
decreases-loop-mark g l = length l.marks
