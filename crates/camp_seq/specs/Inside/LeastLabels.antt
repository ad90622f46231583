-- The search for the least label that can be moved to the front: labels are tried in ascending order; `tried` is the
-- last one that was tried and is blocked.
use Rattle.std.specs.Prelude.{◌≡◌, ◌≢◌, ℕ, ◌+◌, Bool, true, if◌then◌else◌, List, [], ◌∷◌, Option, None, Some, IsTrue, All, ◌⊎◌}
use Rattle.std.specs.Ordering.{is_lt}
use Rattle.std.specs.declared.cmp.Ordering.TheVariants.{Less}
use Rattle.camp_prim.specs.Labels.{label_of, label_cmp}
use Rattle.camp_prim.specs.declared.labels.Label.{Label}
use Rattle.camp_prim.specs.declared.named.Named.{Named}
use Rattle.camp_seq.specs.NormalOrder.{IsLeast}
use Rattle.camp_seq.specs.Passing.{Fronts}

-- a label is above the last one that was tried, or none was tried yet
abbrev pub is_above : Option Label → Label → Bool
is_above None label = true
is_above (Some tried) label = is_lt (label_cmp tried label)

-- the first element's label is still to be tried
abbrev pub StartsAbove : Option Label → List Named → Type 0
StartsAbove tried [] = ⊥
StartsAbove tried (p ∷ s) = IsTrue (is_above tried (label_of p))

-- an element has this label
abbrev pub HasLabel : Label → List Named → Type 0
HasLabel label [] = ⊥
HasLabel label (p ∷ s) = (label_of p ≡ label) ⊎ HasLabel label s

-- every label that is still to be tried is at least this one
abbrev pub NoneLess : Option Label → Label → List Named → Type 0
NoneLess tried label s = All (λ p. IsTrue (is_above tried (label_of p)) → label_cmp (label_of p) label ≢ Less) s

-- the least label of the list that is still to be tried
pub record LeastAbove (tried : Option Label) (s : List Named) (label : Label) : Type 0 where
  pub above : IsTrue (is_above tried label)
  pub held : HasLabel label s
  pub least : NoneLess tried label s

-- the number of elements whose label is still to be tried
abbrev pub untried : Option Label → List Named → ℕ
untried tried [] = 0
untried tried (p ∷ s) = (if is_above tried (label_of p) then 1 else 0) + untried tried s

-- t is s after moving to the front, of the elements that can be moved there, the one with the least label
pub record MovesLeastToFront (s t : List Named) : Type 0 where
  pub first : Named
  pub rest : List Named
  pub fronts : Fronts (label_of first) s first rest
  pub least : IsLeast (label_of first) s
  pub is : t ≡ first ∷ rest
