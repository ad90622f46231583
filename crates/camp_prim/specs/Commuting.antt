-- When two primitives commute, and to which two.
use Rattle.std.specs.Prelude.{◌≡◌, ◌≢◌, ℕ, ◌+◌, ◌<◌, ◌⊎◌, List, length}
use Rattle.camp_prim.specs.Hunks.{Edit}
use Rattle.camp_prim.specs.Effect.{InRange}
use Rattle.camp_prim.specs.Labels.{label_of, SameKey}
use Rattle.camp_prim.specs.declared.primitives.Primitive.{Primitive}
use Rattle.camp_prim.specs.declared.primitives.Primitive.TheVariants.{Add, Remove, Hunk}
use Rattle.camp_prim.specs.declared.named.Named.{Named}

-- the path that a primitive changes
abbrev pub path_of : Primitive → List ℕ
path_of (Add path) = path
path_of (Remove path) = path
path_of (Hunk hunk) = hunk.path

-- a hunk at another line
abbrev pub at_line : ℕ → Edit → Edit
at_line line hunk = record { path = hunk.path; line = line; old = hunk.old; new = hunk.new }

-- two hunks with `gap` lines between them may commute: if `gap` is 0, only if no side of them is empty
abbrev pub GapAllowsCommute : ℕ → Edit → Edit → Type 0
GapAllowsCommute gap h k = (0 < gap) ⊎ ((0 < length h.old) × (0 < length h.new) × (0 < length k.old) × (0 < length k.new))

-- p q <-> q p, on two paths
pub record CommutesOnTwoPaths (p q q' p' : Primitive) : Type 0 where
  pub paths : path_of p ≢ path_of q
  pub second : q' ≡ q
  pub first : p' ≡ p

-- h k <-> k' h, where k is the lower hunk: k is `gap` lines below the new lines of h, and k' is `gap` lines below the old
-- lines of h
pub record CommutesBelow (p q q' p' : Primitive) : Type 0 where
  pub h : Edit
  pub k : Edit
  pub gap : ℕ
  pub is_p : p ≡ Hunk h
  pub is_q : q ≡ Hunk k
  pub path : h.path ≡ k.path
  pub stands : k.line ≡ h.line + length h.new + gap
  pub passes : GapAllowsCommute gap h k
  pub second : q' ≡ Hunk (at_line (h.line + length h.old + gap) k)
  pub first : p' ≡ p

-- h k <-> k h', where h is the lower hunk: h is `gap` lines below the old lines of k, and h' is `gap` lines below the new
-- lines of k
pub record CommutesAbove (p q q' p' : Primitive) : Type 0 where
  pub h : Edit
  pub k : Edit
  pub gap : ℕ
  pub is_p : p ≡ Hunk h
  pub is_q : q ≡ Hunk k
  pub path : h.path ≡ k.path
  pub stands : h.line ≡ k.line + length k.old + gap
  pub passes : GapAllowsCommute gap h k
  pub second : q' ≡ q
  pub first : p' ≡ Hunk (at_line (k.line + length k.new + gap) h)

-- p and then q commute to q' and then p', whatever their labels: one of the three cases
abbrev pub PrimitivesCommute : Primitive → Primitive → Primitive → Primitive → Type 0
PrimitivesCommute p q q' p' = CommutesOnTwoPaths p q q' p' ⊎ (CommutesBelow p q q' p' ⊎ CommutesAbove p q q' p')

-- each of four primitives is in range
abbrev pub AreInRange : Primitive → Primitive → Primitive → Primitive → Type 0
AreInRange p q q' p' = InRange p × InRange q × InRange q' × InRange p'

-- p q <-> q' p' without the test of ranges: the absolute labels differ, the primitives commute, and labels are kept
pub record CommuteAnywhere (p q q' p' : Named) : Type 0 where
  pub apart : ¬ (SameKey p q)
  pub change : PrimitivesCommute p.prim q.prim q'.prim p'.prim
  pub second : label_of q' ≡ label_of q
  pub first : label_of p' ≡ label_of p

-- p q <-> q' p': they commute by `CommuteAnywhere`, and all four are in range
pub record Commute (p q q' p' : Named) : Type 0 where
  pub anywhere : CommuteAnywhere p q q' p'
  pub ranges : AreInRange p.prim q.prim q'.prim p'.prim

-- p and then q are exchanged in place: p becomes p', and q becomes q'
abbrev pub CommutesInPlace : Named × Named → Named × Named → Type 0
CommutesInPlace old new = Commute old.0 old.1 new.1 new.0
