use Rattle.camp_git.proofs.Words.{◌≡◌, ℕ, ◌<◌, ◌≤◌, ◌-◌, List, Some, Less, nat_cmp, slice_cmp, slice_get, entries, Lines}
use Rattle.std.specs.FinMap.{len}
use Rattle.camp_git.proofs.folders.place_of.Given as goal

abbrev pub invariant-loop-low : goal.invariant-loop-low
invariant-loop-low l = record {
  rises : l.low ≤ l.high;
  within : l.high ≤ len l.tree;
  before : (k : ℕ) (file : List ℕ × Lines) → k < l.low → slice_get (entries l.tree) k ≡ Some file → slice_cmp nat_cmp file.0 l.bytes ≡ Less;
  behind : (file : List ℕ × Lines) → slice_get (entries l.tree) l.high ≡ Some file → ¬ (slice_cmp nat_cmp file.0 l.bytes ≡ Less);
}

abbrev pub decreases-loop-low : goal.decreases-loop-low
decreases-loop-low l = l.high - l.low
