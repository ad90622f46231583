-- The laws of commuting two primitives.
use Rattle.std.specs.Prelude.{◌≡◌, ◌↔◌, Bool, Option, None, Some, if◌then◌else◌}
use Rattle.camp_base.specs.Answers.{Changes, FindsPair}
use Rattle.camp_base.specs.Trees.{Files}
use Rattle.camp_prim.specs.Effect.{inverse_of, Leads}
use Rattle.camp_prim.specs.Commuting.{Commute, CommutesInPlace}
use Rattle.camp_prim.specs.declared.named.Named.{Named}

-- two primitives commute to at most one pair
abbrev pub CommuteIsUnique : Type 0
CommuteIsUnique = (p q q' p' r' o' : Named) → Commute p q q' p' → Commute p q r' o' → (q' ≡ r') × (p' ≡ o')

-- own inverse: p q <-> q' p' implies q' p' <-> p q
abbrev pub OwnInverse : Named → Named → Named → Named → Type 0
OwnInverse p q q' p' = Commute q' p' p q

-- inverse: p q <-> q' p' implies q^ p^ <-> p'^ q'^
abbrev pub Inverse : Named → Named → Named → Named → Type 0
Inverse p q q' p' = Commute (inverse_of q) (inverse_of p) (inverse_of p') (inverse_of q')

-- square: p q <-> q' p' implies p^ q' <-> q p'^
abbrev pub Square : Named → Named → Named → Named → Type 0
Square p q q' p' = Commute (inverse_of p) q' q (inverse_of p')

-- effect: p then q, and q' then p', lead from the same trees to the same trees
abbrev pub SameEffect : Named → Named → Named → Named → Type 0
SameEffect p q q' p' = (old new : Files) → Leads p.prim q.prim old new ↔ Leads q'.prim p'.prim old new

-- all four laws
pub record CommuteLaws (p q q' p' : Named) : Type 0 where
  pub own_inverse : OwnInverse p q q' p'
  pub inverse : Inverse p q q' p'
  pub square : Square p q q' p'
  pub effect : SameEffect p q q' p'

-- `commute` and `commute_in_place` agree: the first returns None exactly if the second returns false; else both give
-- the same two primitives
abbrev pub BothCommuteAlike : Type 0
BothCommuteAlike =
    (p q p' q' : Named) (found : Option (Named × Named)) (done : Bool)
    → FindsPair (Commute p q) found → Changes CommutesInPlace (p, q) done (p', q')
    → found ≡ (if done then Some (q', p') else None)

-- the six orders of p q r, each from the last by commuting two neighbours:
-- p q r    q' p' r    q' r2 p2    y q2 p2    y p1 q1    p r1 q1    p q r
pub record SixOrders (Turns : Named → Named → Named → Named → Type 0)
    (p q r q' p' r1 q1 r2 p2 y p1 q2 : Named) : Type 0 where
  pub pq : Turns p q q' p'
  pub pr : Turns p' r r2 p2
  pub qr2 : Turns q' r2 y q2
  pub p1q1 : Turns p1 q1 q2 p2
  pub pr1 : Turns p r1 y p1
  pub qr : Turns q r r1 q1
