-- A hunk without a context, and the lines to which it moves as it commutes.
use Rattle.std.specs.Prelude.{ℕ}
use Rattle.camp_prim.specs.Hunks.{Edit, IsInRange}
use Rattle.camp_prim.specs.Commuting.{PrimitivesCommute, Commute, at_line}
use Rattle.camp_prim.specs.declared.named.Named.{Named}
use Rattle.camp_prim.specs.declared.primitives.Primitive.TheVariants.{Hunk}

-- a patch whose change is a hunk, at this line
abbrev pub hunk_at : Named → Edit → ℕ → Named
hunk_at patch hunk line =
    record { name = patch.name; place = patch.place; inverse = patch.inverse; prim = Hunk (at_line line hunk) }

-- a change and then a hunk at `line` commute, and the hunk moves to `next`
abbrev pub HunkMovesBefore : Named → Named → Edit → ℕ → ℕ → Type 0
HunkMovesBefore change patch hunk line next = (behind : Named) × Commute change (hunk_at patch hunk line) (hunk_at patch hunk next) behind

-- another hunk of the same file and then this hunk at `line` commute, both in range before and after, and this hunk
-- moves to `next`
pub record HunkCommutesPast (other hunk : Edit) (line next : ℕ) : Type 0 where
  pub behind : Edit
  pub change : PrimitivesCommute (Hunk other) (Hunk (at_line line hunk)) (Hunk (at_line next hunk)) (Hunk behind)
  pub second : IsInRange (at_line next hunk)
  pub first : IsInRange behind
