-- Equivalent lists of primitives: each is reached from the other by commuting neighbours.
use Rattle.std.specs.Prelude.{◌≡◌, List, ◌∷◌, ◌++◌}
use Rattle.camp_prim.specs.Commuting.{Commute}
use Rattle.camp_prim.specs.declared.named.Named.{Named}

-- t is s with two neighbours [p] [q] replaced by [q'] [p'], which a relation gives for them
pub record CommutesOnce (Turns : Named → Named → Named → Named → Type 0) (s t : List Named) : Type 0 where
  pub before : List Named
  pub p : Named
  pub q : Named
  pub q' : Named
  pub p' : Named
  pub after : List Named
  pub was : s ≡ before ++ p ∷ q ∷ after
  pub turns : Turns p q q' p'
  pub becomes : t ≡ before ++ q' ∷ p' ∷ after

-- the least equivalence relation in which two lists are equivalent if one commute of neighbours leads from one to the
-- other
infix 4 ◌~◌
pub data ◌~◌ : List Named → List Named → Type 0 where
  same : {s : List Named} → s ~ s
  exchanged : {s t : List Named} → CommutesOnce Commute s t → s ~ t
  backwards : {s t : List Named} → s ~ t → t ~ s
  through : {s t u : List Named} → s ~ t → t ~ u → s ~ u
