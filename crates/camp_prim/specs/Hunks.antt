-- Hunks as plain data.
use Rattle.std.specs.Prelude.{ℕ, ◌+◌, ◌≤◌, List, length}
use Rattle.camp_base.specs.Limits.{greatest_reach}
use Rattle.camp_base.specs.Trees.{Lines}

-- a hunk: at a line of the file at a path, counted from 1, the old lines are replaced by the new ones
pub record Edit : Type 0 where
  pub path : List ℕ
  pub line : ℕ
  pub old : Lines
  pub new : Lines

-- a hunk made from a path, a line and two sides
abbrev pub hunk_of : List ℕ → ℕ → Lines → Lines → Edit
hunk_of path line old new = record { path = path; line = line; old = old; new = new }

-- a hunk in range: its line is counted from 1, one of its sides has lines, and its line and the counts of its
-- old and new lines add up to at most 2^30
pub record IsInRange (hunk : Edit) : Type 0 where
  pub counted : 1 ≤ hunk.line
  pub changes : 1 ≤ length hunk.old + length hunk.new
  pub within : hunk.line + length hunk.old + length hunk.new ≤ greatest_reach
