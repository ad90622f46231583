-- The effect of a list of primitives on a tree, and the inverse of a list.
use Rattle.std.specs.Prelude.{◌≡◌, List, [], ◌∷◌, map, reverse}
use Rattle.camp_base.specs.Trees.{Files}
use Rattle.camp_prim.specs.Effect.{Applies, inverse_of}
use Rattle.camp_prim.specs.declared.named.Named.{Named}

-- the primitives, applied in order, lead from the old tree to the new one
abbrev pub AppliesAll : List Named → Files → Files → Type 0
AppliesAll [] old new = new ≡ old
AppliesAll (p ∷ s) old new = (between : Files) × Applies p.prim old between × AppliesAll s between new

-- the inverse of a list: the inverses, in reverse order
abbrev pub inverse_all : List Named → List Named
inverse_all s = reverse (map inverse_of s)
