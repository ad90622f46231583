-- Inserting an element before or after a list that is in normal order.
use Rattle.std.specs.Prelude.{◌≡◌, ◌≢◌, ◌⊎◌, ℕ, ◌≤◌, Bool, true, false, List, ◌∷◌, [], ◌++◌, length, take, drop}
use Rattle.std.specs.declared.cmp.Ordering.TheVariants.{Less}
use Rattle.camp_prim.specs.Labels.{label_of, label_cmp}
use Rattle.camp_prim.specs.declared.labels.Label.{Label}
use Rattle.camp_prim.specs.declared.named.Named.{Named}
use Rattle.camp_seq.specs.Chains.{CanCommute}
use Rattle.camp_seq.specs.NormalOrder.{Norm}
use Rattle.camp_seq.specs.Passing.{Fronts, Passes}

-- x0, the element before s0, was commuted in place to the right, past the first `at` elements of s0; x and s are what
-- x0 and s0 have become. The elements from `at` on are unchanged. If x followed by them is put in normal order, the
-- whole list is in normal order. If x0 commutes past all of s0, x commutes past these elements.
pub record CommutedRightInOrder (s0 : List Named) (x0 : Named) (at : ℕ) (s : List Named) (x : Named) : Type 0 where
  pub bound : at ≤ length s0
  pub long : length s ≡ length s0
  pub waiting : drop at s ≡ drop at s0
  pub ordered : (t : List Named) → Norm (x ∷ drop at s0) t → Norm (x0 ∷ s0) (take at s ++ t)
  pub passing : (t : List Named) (p : Named) → Passes x0 s0 t p
      → (u : List Named) × (q : Named) × Passes x (drop at s0) u q

-- x0, the element after s0, was commuted in place to the left, up to index `at`; x and s are what x0 and s0 have
-- become. The whole list is in normal order.
pub record CommutedLeftInOrder (s0 : List Named) (x0 : Named) (at : ℕ) (s : List Named) (x : Named) : Type 0 where
  pub bound : at ≤ length s0
  pub ordered : Norm (s0 ++ x0 ∷ []) (take at s ++ x ∷ drop at s)

-- t is s with its elements from index `at` on put in normal order; if they are known to be in it, t is s
abbrev pub OrderedFrom : List Named → ℕ → Bool → List Named → Type 0
OrderedFrom s at true t = t ≡ s
OrderedFrom s at false t = (rest : List Named) × Norm (drop at s) rest × (t ≡ take at s ++ rest)

-- one step of a quick check of normal order: p, the next element, can't be moved in front of one with a greater label.
-- `last` is the element before p; `greatest` is the greatest label of the elements before p, and `more` that of the
-- elements up to p. Either p has a label below `greatest`, or it does not commute with `last`, and `more` is its own
-- label.
abbrev pub StaysAfterFirst : Label → Named → Named → Label → Type 0
StaysAfterFirst greatest last p more =
    ((label_cmp (label_of p) greatest ≡ Less) × (more ≡ greatest))
    ⊎ ((¬ (CanCommute last p)) × (more ≡ label_of p))

-- no element of s with a label below `label` can be moved to the front of s and then past p, unless its label is below
-- `greatest` too
abbrev pub NoneLessCanPass : Label → Label → Named → List Named → Type 0
NoneLessCanPass label greatest p s =
    (other : Label) (found : Named) (u : List Named) → Fronts other s found u → CanCommute p found
    → label_cmp other greatest ≢ Less → label_cmp other label ≢ Less
