-- The normal order of a list, and a list split by labels.
use Rattle.std.specs.Prelude.{◌≡◌, ◌≢◌, List, [], ◌∷◌}
use Rattle.std.specs.declared.cmp.Ordering.TheVariants.{Less}
use Rattle.camp_prim.specs.Labels.{label_of, label_cmp}
use Rattle.camp_prim.specs.declared.labels.Label.{Label}
use Rattle.camp_prim.specs.declared.named.Named.{Named}
use Rattle.camp_seq.specs.Passing.{Fronts, Parts}

-- no label that can be moved to the front of the list is below this one
abbrev pub IsLeast : Label → List Named → Type 0
IsLeast label s = (other : Label) (y : Named) (t : List Named) → Fronts other s y t → label_cmp other label ≢ Less

-- t is s in normal order: first the least label that can be moved to the front, then the rest in normal order
abbrev pub Norm : List Named → List Named → Type 0
Norm s [] = s ≡ []
Norm s (y ∷ t) = (rest : List Named) × Fronts (label_of y) s y rest × IsLeast (label_of y) s × Norm rest t

-- a list is split into f, the elements with these labels, and t, the others; both are in normal order, and f t is
-- equivalent to the list
pub record Splits (labels : List Label) (s f t : List Named) : Type 0 where
  pub named : List Named
  pub others : List Named
  pub parts : Parts labels s named others
  pub first : Norm named f
  pub rest : Norm others t
