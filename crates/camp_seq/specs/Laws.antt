-- The laws of lists that the crates above build on.
use Rattle.std.specs.Prelude.{◌≡◌, ◌↔◌, List, [], ◌∷◌, ◌++◌, All, Contains}
use Rattle.camp_base.specs.Trees.{Files}
use Rattle.camp_prim.specs.Labels.{label_of}
use Rattle.camp_prim.specs.declared.labels.Label.{Label}
use Rattle.camp_prim.specs.declared.named.Named.{Named}
use Rattle.camp_seq.specs.Equivalence.{◌~◌}
use Rattle.camp_seq.specs.Passing.{Passes, PassesAll, Fronts, Parts}
use Rattle.camp_seq.specs.NormalOrder.{Norm, Splits}
use Rattle.camp_seq.specs.Merging.{CleanMerge}
use Rattle.camp_seq.specs.Running.{AppliesAll, inverse_all}

-- equivalent lists lead from the same trees to the same trees
abbrev pub EquivalentRun : Type 0
EquivalentRun = (s t : List Named) → s ~ t → (old new : Files) → AppliesAll s old new ↔ AppliesAll t old new

-- commuting past, moving to the front, splitting and normal ordering each give an equivalent list
pub record AreEquivalent : Type 0 where
  pub passed : (p : Named) (s s' : List Named) (p' : Named) → Passes p s s' p' → (p ∷ s) ~ (s' ++ p' ∷ [])
  pub all_passed : (r s s' r' : List Named) → PassesAll r s s' r' → (r ++ s) ~ (s' ++ r')
  pub fronted : (label : Label) (s : List Named) (y : Named) (t : List Named) → Fronts label s y t → s ~ (y ∷ t)
  pub parted : (labels : List Label) (s f t : List Named) → Parts labels s f t → s ~ (f ++ t)
  pub split : (labels : List Label) (s f t : List Named) → Splits labels s f t → s ~ (f ++ t)
  pub ordered : (s t : List Named) → Norm s t → s ~ t

-- each relation has at most one result
pub record AreDetermined : Type 0 where
  pub passes : (p : Named) (s s' t : List Named) (p' q : Named)
      → Passes p s s' p' → Passes p s t q → (s' ≡ t) × (p' ≡ q)
  pub passes_all : (r s s' t r' q : List Named) → PassesAll r s s' r' → PassesAll r s t q → (s' ≡ t) × (r' ≡ q)
  pub fronts : (label : Label) (s t u : List Named) (y z : Named)
      → Fronts label s y t → Fronts label s z u → (y ≡ z) × (t ≡ u)
  pub splits : (labels : List Label) (s f t g u : List Named)
      → Splits labels s f t → Splits labels s g u → (f ≡ g) × (t ≡ u)
  pub norm : (s t u : List Named) → Norm s t → Norm s u → t ≡ u
  pub merges : (a b b' a' c d : List Named) → CleanMerge a b b' a' → CleanMerge a b c d → (b' ≡ c) × (a' ≡ d)

-- a list and its inverse undo each other
abbrev pub InverseOfListLeadsBack : Type 0
InverseOfListLeadsBack = (s : List Named) (old new : Files) → AppliesAll s old new ↔ AppliesAll (inverse_all s) new old

-- every list has a normal order
abbrev pub HasNormalOrder : Type 0
HasNormalOrder = (s : List Named) → (t : List Named) × Norm s t

-- a clean merge closes a square: a then b', and b then a', lead from the same tree to the same tree
abbrev pub MergeCloses : Type 0
MergeCloses =
    (a b b' a' : List Named) → CleanMerge a b b' a'
    → (old left right : Files) → AppliesAll a old left → AppliesAll b old right
    → (new : Files) × AppliesAll b' left new × AppliesAll a' right new

-- the two orders of a clean merge are equivalent: a b' ~ b a'
abbrev pub MergeIsEquivalent : Type 0
MergeIsEquivalent = (a b b' a' : List Named) → CleanMerge a b b' a' → (a ++ b') ~ (b ++ a')

-- a clean merge is symmetric
abbrev pub MergeIsSymmetric : Type 0
MergeIsSymmetric = (a b b' a' : List Named) → CleanMerge a b b' a' → CleanMerge b a a' b'

-- two lists merge cleanly exactly if the inverse of one commutes past the other
abbrev pub MergeIsPassing : Type 0
MergeIsPassing = (a b b' a' : List Named) → CleanMerge a b b' a' ↔ PassesAll (inverse_all a) b b' (inverse_all a')

-- in a split, each element of the first list has one of the given labels, and no element of the second has
abbrev pub SplitByLabels : Type 0
SplitByLabels =
    (labels : List Label) (s f t : List Named) → Splits labels s f t
    → All (λ p. Contains labels (label_of p)) f × All (λ p. ¬ (Contains labels (label_of p))) t
