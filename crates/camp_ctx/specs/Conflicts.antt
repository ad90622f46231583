-- When two contexted patches of the same state conflict.
use Rattle.std.specs.Prelude.{Bool, List, map, filter}
use Rattle.std.specs.List.{list_any}
use Rattle.std.specs.Ordering.{eq_by_cmp}
use Rattle.camp_prim.specs.Labels.{label_of, label_cmp}
use Rattle.camp_prim.specs.declared.labels.Label.{Label}
use Rattle.camp_prim.specs.declared.named.Named.{Named}
use Rattle.camp_seq.specs.Merging.{CleanMerge}
use Rattle.camp_seq.specs.NormalOrder.{Splits}
use Rattle.camp_ctx.specs.Contexts.{ContextedPatch, whole}

-- an element of a list has this signed label
abbrev pub has_label : List Named → Label → Bool
has_label s label = list_any (λ p. eq_by_cmp label_cmp (label_of p) label) s

-- the signed labels that are in both lists
abbrev pub common_labels : List Named → List Named → List Label
common_labels s t = filter (has_label t) (map label_of s)

-- two lists of the same state merge cleanly after their common part: s ~ common s1 and t ~ common t1, and s1 and t1
-- merge cleanly to t' and s'
pub record MergesCleanlyAfterCommon (s t t' s' : List Named) : Type 0 where
  pub common : List Named
  pub s1 : List Named
  pub t1 : List Named
  pub first : Splits (common_labels s t) s common s1
  pub second : Splits (common_labels s t) t common t1
  pub merge : CleanMerge s1 t1 t' s'

-- c:p and d:q conflict unless c p and d q merge cleanly after their common part
abbrev pub Conflict : ContextedPatch → ContextedPatch → Type 0
Conflict x y = (t' s' : List Named) → ¬ (MergesCleanlyAfterCommon (whole x) (whole y) t' s')
