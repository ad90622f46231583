-- The results of moving elements inside a list.
use Rattle.std.specs.Prelude.{◌≡◌, ◌≢◌, ℕ, ◌<◌, ◌≤◌, List, [], ◌∷◌, ◌++◌, length, take, drop, All}
use Rattle.camp_prim.specs.Commuting.{Commute}
use Rattle.camp_prim.specs.Labels.{label_of}
use Rattle.camp_prim.specs.declared.labels.Label.{Label}
use Rattle.camp_prim.specs.declared.named.Named.{Named}
use Rattle.camp_seq.specs.Passing.{Passes, Fronts, Parts}

-- s p ~ p' s': p is commuted to before every element of s
abbrev pub CommutesBeforeAll : List Named → Named → Named → List Named → Type 0
CommutesBeforeAll [] p p' s' = (p' ≡ p) × (s' ≡ [])
CommutesBeforeAll (q ∷ s) p p' s' =
    (coming : Named) × (q' : Named) × (t : List Named) × CommutesBeforeAll s p coming t × Commute q coming p' q' × (s' ≡ q' ∷ t)

-- `CommutesBeforeAll` in place: the list and the primitive before, and what they become
abbrev pub CommutesBeforeAllInPlace : List Named × Named → List Named × Named → Type 0
CommutesBeforeAllInPlace old new = CommutesBeforeAll old.0 old.1 new.1 new.0

-- p, which comes after a and then s, is blocked: it cannot be commuted past any element of a
abbrev pub IsBlockedByAll : List Named → List Named → Named → Type 0
IsBlockedByAll [] s p = Unit {0}
IsBlockedByAll (y ∷ a) s p = ((p' : Named) (t : List Named) → ¬ (CommutesBeforeAll (y ∷ (a ++ s)) p p' t)) × IsBlockedByAll a s p

-- p0, which came after s0, was commuted in place to the left and was blocked at index `at`; p is what it has become
pub record CommutedLeftTo (s0 : List Named) (p0 : Named) (at : ℕ) (s : List Named) (p : Named) : Type 0 where
  pub bound : at ≤ length s0
  pub long : length s ≡ length s0
  pub waiting : take at s ≡ take at s0
  pub came : CommutesBeforeAll (drop at s0) p0 p (drop at s)
  pub held : IsBlockedByAll (take at s0) (drop at s0) p0

-- p0, which came before s0, was commuted in place to the right and was blocked at index `at`; p is what it has become
pub record CommutedRightTo (s0 : List Named) (p0 : Named) (at : ℕ) (s : List Named) (p : Named) : Type 0 where
  pub bound : at ≤ length s0
  pub long : length s ≡ length s0
  pub waiting : drop at s ≡ drop at s0
  pub passed : Passes p0 (take at s0) (take at s) p
  pub stops : at < length s0 → (s' : List Named) (p' : Named) → ¬ (Passes p0 s0 s' p')

-- p is commuted past every element of s, in place
abbrev pub PassesInPlace : Named × List Named → Named × List Named → Type 0
PassesInPlace old new = Passes old.0 old.1 new.1 new.0

-- no element has this label
abbrev pub LacksLabel : Label → List Named → Type 0
LacksLabel label s = All (λ p. label_of p ≢ label) s

-- `at` is the index of the first element with this label
pub record FirstWithLabel (label : Label) (s : List Named) (at : ℕ) : Type 0 where
  pub before : List Named
  pub first : Named
  pub after : List Named
  pub is : s ≡ before ++ first ∷ after
  pub stands : length before ≡ at
  pub labelled : label_of first ≡ label
  pub lacks : LacksLabel label before

-- the first element with this label is commuted to the front, in place
abbrev pub FrontsInPlace : Label → List Named → List Named → Type 0
FrontsInPlace label s t = (y : Named) × (rest : List Named) × Fronts label s y rest × (t ≡ y ∷ rest)

-- the first element is commuted past all others, in place
abbrev pub FirstPasses : List Named → List Named → Type 0
FirstPasses [] t = ⊥
FirstPasses (p ∷ s) t = (s' : List Named) × (p' : Named) × Passes p s s' p' × (t ≡ s' ++ p' ∷ [])

-- the elements from index `at` on are reordered: the `count` elements with these labels come first, then the others;
-- before `at` the list is unchanged
pub record PartsFrom (labels : List Label) (s : List Named) (at count : ℕ) (now : List Named) : Type 0 where
  pub named : List Named
  pub others : List Named
  pub parts : Parts labels (drop at s) named others
  pub is : drop at now ≡ named ++ others
  pub counted : length named ≡ count
  pub waiting : take at now ≡ take at s

-- the elements with these labels, `count` in number, are commuted to the front, in place
abbrev pub PartsInPlace : List Label → List Named → ℕ → List Named → Type 0
PartsInPlace labels s count t =
    (named : List Named) × (others : List Named) × Parts labels s named others
    × (t ≡ named ++ others) × (length named ≡ count)
