use Rattle.std.proofs.Common.{List, ◌++◌, length, map}
use Rattle.std.proofs.Common.{reverse}
use Rattle.camp_prim.specs.declared.primitives.Primitive.{Primitive}
use Rattle.camp_import.specs.Parts.{ArePartsOf}
use Rattle.camp_import.proofs.parts.into_parts.Given as goal

abbrev pub invariant-parts : goal.invariant-parts
invariant-parts l =
    (more : List (List Primitive)) → ArePartsOf more (reverse l.changes.items)
    → ArePartsOf (map (λ part. part.items) l.parts.items ++ more) (reverse l.initial.changes.items)

abbrev pub decreases-parts : goal.decreases-parts
decreases-parts l = length l.changes.items
