-- The lines to which hunks move as they commute.
use Rattle.std.specs.Prelude.{◌≡◌, ℕ, ◌+◌, ◌<◌, ◌⊎◌, Option, None, Some, length}
use Rattle.camp_prim.specs.Hunks.{Edit, IsInRange}
use Rattle.camp_prim.specs.Commuting.{at_line, AreInRange, PrimitivesCommute}
use Rattle.camp_prim.specs.declared.commuting.Targets.{Targets}
use Rattle.camp_prim.specs.declared.primitives.Primitive.{Primitive}
use Rattle.camp_prim.specs.declared.primitives.Primitive.TheVariants.{Add, Remove, Hunk}

-- a primitive moved to another line, if one is given; only a hunk has a line
abbrev pub moved : Option ℕ → Primitive → Primitive
moved None p = p
moved (Some line) (Add path) = Add path
moved (Some line) (Remove path) = Remove path
moved (Some line) (Hunk hunk) = Hunk (at_line line hunk)

-- p and then q, each moved to its new line, in the other order
abbrev pub commuted_to_targets : Primitive → Primitive → Targets → Primitive × Primitive
commuted_to_targets p q targets = (moved targets.second q, moved targets.first p)

-- the new line of a hunk that commutes with one above it, if it is in range. The hunk was `gap` lines below the new
-- lines of the upper hunk; it is then `gap` lines below the old ones.
pub record IsTargetLine (upper takes leaves : ℕ) (lower : Edit) (line : ℕ) : Type 0 where
  pub gap : ℕ
  pub stands : lower.line ≡ upper + leaves + gap
  pub passes : (0 < gap) ⊎ ((0 < takes) × (0 < leaves) × (0 < length lower.old) × (0 < length lower.new))
  pub comes : line ≡ upper + takes + gap
  pub fits : IsInRange (at_line line lower)

-- p and then q commute to q' and then p', whatever their labels, and all four are in range
pub record CommutesInRange (p q q' p' : Primitive) : Type 0 where
  pub change : PrimitivesCommute p q q' p'
  pub ranges : AreInRange p q q' p'
