-- The representation of the changes of a patch.
use Rattle.std.specs.Prelude.{List, [], ◌∷◌}
use Rattle.camp_prim.specs.declared.primitives.Primitive.{Primitive}
use Rattle.camp_call.specs.declared.changes.Held.{Held}
use Rattle.camp_call.specs.declared.changes.Held.TheVariants as held

-- the changes that the field represents
abbrev pub held_changes : Held → List Primitive
held_changes (held.One change) = change ∷ []
held_changes (held.Many changes) = changes.items
