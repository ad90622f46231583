-- The clean merge of two lists that begin in the same state.
use Rattle.std.specs.Prelude.{◌≡◌, List, [], ◌∷◌}
use Rattle.camp_prim.specs.Commuting.{Commute}
use Rattle.camp_prim.specs.Effect.{inverse_of}
use Rattle.camp_prim.specs.declared.named.Named.{Named}

-- two primitives that begin in the same state merge to b' after a and a' after b: [a^] [b] <-> [b'] [a'^]
abbrev pub Merges : Named → Named → Named → Named → Type 0
Merges a b b' a' = Commute (inverse_of a) b b' (inverse_of a')

-- a primitive and a list that begin in the same state merge: the primitive with each element, one after the other
abbrev pub MergesOne : Named → List Named → List Named → Named → Type 0
MergesOne a [] b' a' = (b' ≡ []) × (a' ≡ a)
MergesOne a (b ∷ bs) b' a' =
    (first : Named) × (beside : Named) × (t : List Named)
    × Merges a b first beside × MergesOne beside bs t a' × (b' ≡ first ∷ t)

-- two lists that begin in the same state merge: each primitive of one with each of the other
abbrev pub CleanMerge : List Named → List Named → List Named → List Named → Type 0
CleanMerge [] b b' a' = (b' ≡ b) × (a' ≡ [])
CleanMerge (p ∷ a) b b' a' =
    (beside : List Named) × (p' : Named) × (t : List Named)
    × MergesOne p b beside p' × CleanMerge a beside b' t × (a' ≡ p' ∷ t)
