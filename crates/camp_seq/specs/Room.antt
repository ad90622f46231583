-- Headroom: every list that is reached by commuting neighbours is in range.
use Rattle.std.specs.Prelude.{◌↔◌, ◌≤◌, List, [], ◌∷◌, ◌++◌}
use Rattle.std.specs.List.{All}
use Rattle.camp_base.specs.Limits.{greatest_reach}
use Rattle.camp_prim.specs.Effect.{InRange}
use Rattle.camp_prim.specs.Laws.{SixOrders}
use Rattle.camp_prim.specs.Commuting.{CommuteAnywhere, Commute}
use Rattle.camp_prim.specs.declared.named.Named.{Named}
use Rattle.camp_seq.specs.Equivalence.{CommutesOnce, ◌~◌}
use Rattle.camp_seq.specs.Merging.{CleanMerge}
use Rattle.camp_seq.specs.NormalOrder.{Norm}
use Rattle.camp_seq.specs.Running.{inverse_all}
use Rattle.camp_seq.specs.Shapes.{reach_of}

-- a list leads to another by commuting neighbours any number of times; hunks may be out of range on the way
pub data Reaches : List Named → List Named → Type 0 where
  here : {s : List Named} → Reaches s s
  further : {s t u : List Named} → CommutesOnce CommuteAnywhere s t → Reaches t u → Reaches s u

-- a list has headroom: in every list that it leads to, each element is in range
abbrev pub HasRoom : List Named → Type 0
HasRoom s = (t : List Named) → Reaches s t → All (λ p. InRange p.prim) t

-- the law of three, with headroom: if p and q commute, then p q r can be put in all six orders if r commutes past q and
-- then past p, or if p commutes past q and then past r, and q commutes past r
pub record LawOfThree : Type 0 where
  pub from_behind : (p q r q' p' r1 q1 y p1 : Named) → HasRoom (p ∷ q ∷ r ∷ [])
      → Commute p q q' p' → Commute q r r1 q1 → Commute p r1 y p1
      → (r2 : Named) × (p2 : Named) × (q2 : Named) × SixOrders Commute p q r q' p' r1 q1 r2 p2 y p1 q2
  pub from_before : (p q r q' p' r2 p2 r1 q1 : Named) → HasRoom (p ∷ q ∷ r ∷ [])
      → Commute p q q' p' → Commute p' r r2 p2 → Commute q r r1 q1
      → (y : Named) × (p1 : Named) × (q2 : Named) × SixOrders Commute p q r q' p' r1 q1 r2 p2 y p1 q2

-- the normal order is a normal form: a list with headroom and every list equivalent to it have the same
-- normal order
abbrev pub NormalForm : Type 0
NormalForm = (s t : List Named) → HasRoom s → s ~ t → (u : List Named) → Norm s u → Norm t u

-- a list of primitives in range has headroom if its reach (`reach_of`) is at most 2^30
abbrev pub ReachGivesRoom : Type 0
ReachGivesRoom = (s : List Named) → All (λ p. InRange p.prim) s → reach_of s ≤ greatest_reach → HasRoom s

-- two lists that begin in the same state have headroom to merge: the inverse of either one, followed by the other, has
-- headroom
pub record HasRoomToMerge (s t : List Named) : Type 0 where
  pub forth : HasRoom (inverse_all s ++ t)
  pub back : HasRoom (inverse_all t ++ s)

-- two lists that begin in the same state merge cleanly
abbrev pub MergeCleanly : List Named → List Named → Type 0
MergeCleanly s t = (t' : List Named) × (s' : List Named) × CleanMerge s t t' s'

-- whether two lists have headroom to merge does not depend on the order of their elements; with headroom, neither does
-- whether they merge cleanly
abbrev pub MergesInAnyOrder : Type 0
MergesInAnyOrder =
    (s u t v : List Named) → HasRoomToMerge s t → s ~ u → t ~ v → HasRoomToMerge u v × (MergeCleanly s t ↔ MergeCleanly u v)
