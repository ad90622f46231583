-- Lists that do not merge, and primitives that are independent of each other.
use Rattle.std.specs.Prelude.{◌≡◌, ◌≢◌, List, false}
use Rattle.std.specs.List.{AllByRecursion}
use Rattle.camp_prim.specs.Effect.{InRange}
use Rattle.camp_prim.specs.Labels.{label_of, SameKey}
use Rattle.camp_prim.specs.Commuting.{path_of}
use Rattle.camp_prim.specs.declared.named.Named.{Named}
use Rattle.camp_seq.specs.Merging.{CleanMerge}
use Rattle.camp_seq.specs.NormalOrder.{Norm}
use Rattle.camp_ctx.specs.Conflicts.{has_label}

-- two lists do not merge cleanly
abbrev pub NoCleanMerge : List Named → List Named → Type 0
NoCleanMerge s t = (t' s' : List Named) → ¬ (CleanMerge s t t' s')

-- two lists, in the order that they have, merge cleanly exactly if their normal orders do
pub record MergesAsOrdered (s t : List Named) : Type 0 where
  pub forth : (s1 t1 t' s' : List Named) → Norm s s1 → Norm t t1 → CleanMerge s1 t1 t' s'
      → (v' : List Named) × (u' : List Named) × CleanMerge s t v' u'
  pub back : (t' s' : List Named) → CleanMerge s t t' s'
      → (s1 : List Named) × (t1 : List Named) × (v' : List Named) × (u' : List Named)
      × Norm s s1 × Norm t t1 × CleanMerge s1 t1 v' u'

-- no label of one list is in the other
abbrev pub LacksLabels : List Named → List Named → Type 0
LacksLabels s t = AllByRecursion (λ p. has_label t (label_of p) ≡ false) s

-- two primitives change different files and have different absolute labels
pub record ChangeDifferentFiles (p q : Named) : Type 0 where
  pub paths : path_of p.prim ≢ path_of q.prim
  pub keys : ¬ (SameKey p q)
  pub first : InRange p.prim
  pub second : InRange q.prim

-- a primitive is independent of every element of a list
abbrev pub ChangesOtherFiles : List Named → Named → Type 0
ChangesOtherFiles t p = AllByRecursion (ChangeDifferentFiles p) t

-- no element of one list changes a file of the other
abbrev pub ChangeNoCommonFile : List Named → List Named → Type 0
ChangeNoCommonFile s t = AllByRecursion (ChangesOtherFiles t) s
