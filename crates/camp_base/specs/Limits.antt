-- Limits that several crates use.
use Rattle.std.specs.Prelude.{ℕ, ◌^◌}

-- the most changes of a patch; it has at least one
abbrev pub most_changes : ℕ
most_changes = 64

-- the most bytes of a name
abbrev pub longest_name : ℕ
longest_name = 40

-- the most bytes of a path
abbrev pub longest_path : ℕ
longest_path = 200

-- the most bytes of a line
abbrev pub longest_line : ℕ
longest_line = 4_096

-- the greatest sum of the line of a hunk and the counts of its old and new lines
abbrev pub greatest_reach : ℕ
greatest_reach = 2 ^ 30
