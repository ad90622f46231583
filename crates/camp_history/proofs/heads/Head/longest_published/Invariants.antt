use Rattle.camp_history.proofs.Words.{◌≤◌, IfSome, IsWithinReach}
use Rattle.camp_history.proofs.heads.Head.longest_published.Given as goal

-- the longest so far lies beyond what was seen and within reach
abbrev pub invariant-loop-number : goal.invariant-loop-number
invariant-loop-number g l = record {
  found : IfSome l.longest (λ found. IsWithinReach l.self.slots l.fn.seen l.fn.reach found.0.now found.1);
  most : l.fn.seen ≤ l.most;
}
