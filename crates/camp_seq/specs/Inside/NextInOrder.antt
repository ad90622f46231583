-- Lists that are in normal order by a quick check of each element.
use Rattle.std.specs.Prelude.{◌≡◌, ◌≢◌, ◌⊎◌, List}
use Rattle.std.specs.List.{AllByRecursion}
use Rattle.std.specs.declared.cmp.Ordering.TheVariants.{Less}
use Rattle.camp_prim.specs.Labels.{label_of, label_cmp}
use Rattle.camp_prim.specs.declared.labels.Label.{Label}
use Rattle.camp_prim.specs.declared.named.Named.{Named}
use Rattle.camp_seq.specs.Chains.{CanCommute}
use Rattle.camp_seq.specs.NormalOrder.{Norm}

-- one step of a quick check: x stays after the elements before it. `last` is the last of these, `greatest` is their
-- greatest label, and `more` is the greatest label with that of x. Either the label of x is at least `greatest`, or it
-- is less and x does not commute with `last`.
abbrev pub StaysInOrder : Label → Named → Named → Label → Type 0
StaysInOrder greatest last x more =
    ((label_cmp (label_of x) greatest ≢ Less) × (more ≡ label_of x))
    ⊎ ((label_cmp (label_of x) greatest ≡ Less) × ¬ (CanCommute last x) × (more ≡ greatest))

-- no label of the list is above this one
abbrev pub NoneAbove : Label → List Named → Type 0
NoneAbove label s = AllByRecursion (λ p. label_cmp label (label_of p) ≢ Less) s

-- a list is its own normal order, and this is its greatest label
pub record IsInOrder (s : List Named) (greatest : Label) : Type 0 where
  pub ordered : Norm s s
  pub above : NoneAbove greatest s
