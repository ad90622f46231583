use Rattle.camp_history.proofs.Words.{◌≡◌, ◌<◌, ◌≤◌, ◌++◌, length, map, take, drop, All, news, entry_of}
use Rattle.camp_row.specs.Chains as chain
use Rattle.camp_history.proofs.heads.Head.follows_trail.Given as goal

abbrev pub invariant-loop-mark : goal.invariant-loop-mark
invariant-loop-mark g l = record {
  same : l.seat ≡ l.fn.seat;
  rest : l.news ≡ drop l.index (news l.fn.seat l.snapshot);
  within : l.index ≤ length l.trail;
  ahead : chain.IsPrefix (l.fn.seat.known.seen ++ map entry_of (take l.index (news l.fn.seat l.snapshot))) l.fn.seat.known.ahead;
  below : All (λ mark. mark.seat < l.fn.seat.known.row.seats) (take l.index (news l.fn.seat l.snapshot));
}

abbrev pub decreases-loop-mark : goal.decreases-loop-mark
decreases-loop-mark g l = length l.news
