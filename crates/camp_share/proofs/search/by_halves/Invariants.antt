use Rattle.camp_share.proofs.Words.{true, false, length, ◌≤◌, ◌-◌}
use Rattle.std.specs.Fn.{FnReturnsAt}
use Rattle.camp_share.specs.Inside.Places.{IsBorder}
use Rattle.camp_share.proofs.search.by_halves.Given as goal

abbrev pub invariant-loop-low : goal.invariant-loop-low
invariant-loop-low g l = record {
  order : l.low ≤ l.high;
  within : l.high ≤ length l.items;
  border : IsBorder (λ item. FnReturnsAt g.F.Fn l.passed item true) (λ item. FnReturnsAt g.F.Fn l.passed item false) l.items l.low l.high;
}

abbrev pub decreases-loop-low : goal.decreases-loop-low
decreases-loop-low g l = l.high - l.low
