-- The effect of a primitive on a tree, and its inverse.
use Rattle.std.specs.Prelude.{not}
use Rattle.camp_base.specs.Trees.{Files, Adds, Removes, Splices}
use Rattle.camp_prim.specs.Hunks.{Edit, IsInRange}
use Rattle.camp_prim.specs.declared.primitives.Primitive.{Primitive}
use Rattle.camp_prim.specs.declared.primitives.Primitive.TheVariants.{Add, Remove, Hunk}
use Rattle.camp_prim.specs.declared.named.Named.{Named}

-- a primitive leads from the old tree to the new one
abbrev pub Applies : Primitive → Files → Files → Type 0
Applies (Add path) old new = Adds path old new
Applies (Remove path) old new = Removes path old new
Applies (Hunk hunk) old new = Splices hunk.path hunk.line hunk.old hunk.new old new

-- the inverse of a hunk: its sides are exchanged
abbrev pub flipped : Edit → Edit
flipped hunk = record { path = hunk.path; line = hunk.line; old = hunk.new; new = hunk.old }

-- the inverse of a primitive: adding and removing a file are inverse
abbrev pub inverted : Primitive → Primitive
inverted (Add path) = Remove path
inverted (Remove path) = Add path
inverted (Hunk hunk) = Hunk (flipped hunk)

-- the inverse of a labelled primitive has its label with the other sign
abbrev pub inverse_of : Named → Named
inverse_of p = record { name = p.name; place = p.place; inverse = not p.inverse; prim = inverted p.prim }

-- a primitive is in range: any add or remove, and a hunk by its line and counts
abbrev pub InRange : Primitive → Type 0
InRange (Add path) = Unit {0}
InRange (Remove path) = Unit {0}
InRange (Hunk hunk) = IsInRange hunk

-- p and then q lead from the old tree to the new one
pub record Leads (p q : Primitive) (old new : Files) : Type 0 where
  pub between : Files
  pub first : Applies p old between
  pub second : Applies q between new
