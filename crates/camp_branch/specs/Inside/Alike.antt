-- Lists of catches with a common prefix.
use Rattle.std.specs.Prelude.{ℕ, ◌≤◌, List}
use Rattle.camp_catch.specs.declared.catches.Catch.{Catch}
use Rattle.camp_branch.specs.Agreeing.{HaveSamePrefix}

-- the longest common prefix of two lists has n catches
pub record DifferAfter (from to : List Catch) (n : ℕ) : Type 0 where
  pub alike : HaveSamePrefix from to n
  pub most : (m : ℕ) → HaveSamePrefix from to m → m ≤ n
