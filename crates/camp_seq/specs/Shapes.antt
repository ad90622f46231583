-- The reach of a list: its greatest line plus the count of all its lines.
use Rattle.std.specs.Prelude.{ℕ, ◌+◌, max, List, [], ◌∷◌, length}
use Rattle.camp_prim.specs.declared.primitives.Primitive.{Primitive}
use Rattle.camp_prim.specs.declared.primitives.Primitive.TheVariants.{Add, Remove, Hunk}
use Rattle.camp_prim.specs.declared.named.Named.{Named}

-- the line of a hunk, and 0 for an add or a remove
abbrev pub line_of : Primitive → ℕ
line_of (Add path) = 0
line_of (Remove path) = 0
line_of (Hunk hunk) = hunk.line

-- the count of a hunk's old and new lines, and 0 for an add or a remove
abbrev pub sides_of : Primitive → ℕ
sides_of (Add path) = 0
sides_of (Remove path) = 0
sides_of (Hunk hunk) = length hunk.old + length hunk.new

-- the greatest line of a hunk of the list
abbrev pub greatest_line : List Named → ℕ
greatest_line [] = 0
greatest_line (p ∷ s) = max (line_of p.prim) (greatest_line s)

-- the count of the old and new lines of all hunks of the list
abbrev pub all_sides : List Named → ℕ
all_sides [] = 0
all_sides (p ∷ s) = sides_of p.prim + all_sides s

-- the reach of a list: the greatest line of its hunks plus the count of all their old and new lines; in no order of the
-- list does a hunk reach further
abbrev pub reach_of : List Named → ℕ
reach_of s = greatest_line s + all_sides s
