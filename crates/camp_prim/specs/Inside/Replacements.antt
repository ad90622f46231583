-- The body of a hunk: what it does at whatever line it applies.
use Rattle.std.specs.Prelude.{ℕ, List}
use Rattle.camp_base.specs.Trees.{Lines}

-- replaces the old lines by the new ones in the file at a path
pub record Replacement : Type 0 where
  pub path : List ℕ
  pub old : Lines
  pub new : Lines
