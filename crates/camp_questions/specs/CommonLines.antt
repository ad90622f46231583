-- The common lines of two lists at their start and end.
use Rattle.std.specs.Prelude.{ℕ, zero, suc, ◌-◌, [], ◌∷◌, length, take, drop, reverse, bytes_eq, if◌then◌else◌}
use Rattle.camp_base.specs.Trees.{Lines}
use Rattle.camp_prim.specs.Hunks.{Edit}

-- the number of equal lines at the start of both
abbrev pub common_front : Lines → Lines → ℕ
common_front [] others = zero
common_front (line ∷ lines) [] = zero
common_front (line ∷ lines) (other ∷ others) = if bytes_eq line other then suc (common_front lines others) else zero

-- the number of equal lines at the end of both
abbrev pub common_end : Lines → Lines → ℕ
common_end lines others = common_front (reverse lines) (reverse others)

-- the lines that a hunk adds: its new lines without those that its two sides have in common at the start and, in what
-- remains, at the end
abbrev pub added_by : Edit → Lines
added_by hunk =
    let front = common_front hunk.old hunk.new in
    let end = common_end (drop front hunk.old) (drop front hunk.new) in
    take (length hunk.new - front - end) (drop front hunk.new)
