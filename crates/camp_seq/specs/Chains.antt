-- Lists in which no two neighbours commute.
use Rattle.std.specs.Prelude.{List, [], ◌∷◌}
use Rattle.camp_prim.specs.Commuting.{Commute}
use Rattle.camp_prim.specs.declared.named.Named.{Named}

-- p and q commute
abbrev pub CanCommute : Named → Named → Type 0
CanCommute p q = (q' : Named) × ((p' : Named) × Commute p q q' p')

-- p does not commute with the first element of the list after it, or that list is empty
abbrev pub IsBlockedByFirst : Named → List Named → Type 0
IsBlockedByFirst p [] = Unit {0}
IsBlockedByFirst p (q ∷ s) = ¬ (CanCommute p q)

-- no element commutes with the one after it
abbrev pub Chain : List Named → Type 0
Chain [] = Unit {0}
Chain (p ∷ s) = IsBlockedByFirst p s × Chain s
