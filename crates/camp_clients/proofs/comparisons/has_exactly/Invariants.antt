use Rattle.camp_clients.proofs.Words.{◌≡◌, ℕ, ◌<◌, ◌≤◌, length, take, get_or, reported_position, AreFoundUpTo, own_at, done_at, lists_of, section_of}
use Rattle.camp_clients.proofs.comparisons.has_exactly.Given as goal

abbrev pub invariant-loop-before : goal.invariant-loop-before
invariant-loop-before g l = record {
  indexes : 64 ≤ length l.indexes;
  seats : (k : ℕ) (d : _) → k < l.before → (get_or l.history k d).0 < length l.sections;
  found : AreFoundUpTo (reported_position g.State.Object.object) (lists_of l.sections) (lists_of l.answers) (take l.before l.history) l.indexes;
}

abbrev pub invariant-loop-seat : goal.invariant-loop-seat
invariant-loop-seat g l = (seat : ℕ) → seat < l.seat →
    own_at seat 0 l.history ≡ done_at (reported_position g.State.Object.object) (section_of (lists_of l.sections) seat) (section_of (lists_of l.answers) seat)
