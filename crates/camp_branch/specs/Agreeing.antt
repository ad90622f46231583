-- Branches whose prefixes have the same patches in the same state.
use Rattle.std.specs.Prelude.{◌≡◌, ℕ, ◌+◌, ◌≤◌, List, drop, length, take}
use Rattle.camp_catch.specs.Arranging.{Align}
use Rattle.camp_catch.specs.Laws.{keys_of}
use Rattle.camp_catch.specs.declared.catches.Catch.{Catch}

-- the first n catches of both branches are the same patches in the same state: the first n of `from`, put in the order
-- of those of `to`, equal the first n of `to`
pub record Agree (from to : List Catch) (n : ℕ) : Type 0 where
  pub within : n ≤ length from
  pub within_too : n ≤ length to
  pub same : Align (keys_of (take n to)) (take n from) (take n to)

-- two lists have the same first n catches
pub record HaveSamePrefix (from to : List Catch) (n : ℕ) : Type 0 where
  pub within : n ≤ length from
  pub within_too : n ≤ length to
  pub same : take n from ≡ take n to

-- n is at least `known` plus the number of catches from that index on that are the same in both lists
abbrev pub ReachesAll : List Catch → List Catch → ℕ → ℕ → Type 0
ReachesAll from to known n = (more : ℕ) → HaveSamePrefix (drop known from) (drop known to) more → known + more ≤ n
