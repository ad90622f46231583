-- The representation of the body of a hunk.
use Rattle.std.specs.Prelude.{[], ◌∷◌}
use Rattle.camp_base.specs.Trees.{Lines}
use Rattle.camp_prim.specs.Inside.Replacements.{Replacement}
use Rattle.camp_prim.specs.declared.bodies.BodyStorage.{BodyStorage}
use Rattle.camp_prim.specs.declared.bodies.BodyStorage.TheVariants as held
use Rattle.camp_prim.specs.declared.bodies.Side.{Side}
use Rattle.camp_prim.specs.declared.bodies.Side.TheVariants as side

-- the lines that a side represents
abbrev pub side_lines : Side → Lines
side_lines side.Empty = []
side_lines (side.One line) = line ∷ []
side_lines (side.Many lines) = lines.items

-- the body that the fields represent
abbrev pub replacement_of : BodyStorage → Replacement
replacement_of (held.Own own) = record { path = own.path; old = own.old.items; new = own.new.items }
replacement_of (held.Shared parts) = record { path = parts.path; old = side_lines parts.old; new = side_lines parts.new }
