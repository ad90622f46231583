-- Facts at the returns of a merge after a common part.
use Rattle.camp_ctx.proofs.Words.{◌≡◌, List, Option, None, Some, sym, ◌∙◌, subst, Label, Named, CleanMerge, Splits, one_split, common_labels, MergesCleanlyAfterCommon, Conflict, ContextedPatch, whole}
use Rattle.camp_base.specs.Answers.{FindsPair}

-- no two lists merge after their common part
abbrev pub NoMerge : List Named → List Named → Type 0
NoMerge s t = (pair : List Named × List Named) → ¬ (MergesCleanlyAfterCommon s t pair.0 pair.1)

-- no list is split off
abbrev NoSplit : List Label → List Named → Type 0
NoSplit labels s = (pair : List Named × List Named) → ¬ (Splits labels s pair.0 pair.1)

module _ (s t : List Named) (labels : List Label) (are : labels ≡ common_labels s t) where
  split_of : (list f r : List Named) → Splits (common_labels s t) list f r → Splits labels list f r
  split_of list f r w = subst (λ ls. Splits ls list f r) (sym are) w

  pub no_first : NoSplit labels s → NoMerge s t
  no_first never pair w = never (w.common, w.s1) (split_of s w.common w.s1 w.first)

  pub no_second : NoSplit labels t → NoMerge s t
  no_second never pair w = never (w.common, w.t1) (split_of t w.common w.t1 w.second)

  module _ (common other rest beside : List Named) (first : Splits labels s common rest) (second : Splits labels t other beside) where
    pub other_fronts : ¬ (common ≡ other) → NoMerge s t
    other_fronts apart pair w =
        let a = one_split labels s common rest w.common w.s1 first (split_of s w.common w.s1 w.first) in
        let b = one_split labels t other beside w.common w.t1 second (split_of t w.common w.t1 w.second) in
        apart (a.0 ∙ sym b.0)

    no_clean_merge : ((pair : List Named × List Named) → ¬ (CleanMerge rest beside pair.0 pair.1)) → NoMerge s t
    no_clean_merge never pair w =
        let a = one_split labels s common rest w.common w.s1 first (split_of s w.common w.s1 w.first) in
        let b = one_split labels t other beside w.common w.t1 second (split_of t w.common w.t1 w.second) in
        never pair (subst (λ x. CleanMerge x beside pair.0 pair.1) (sym a.1) (subst (λ x. CleanMerge w.s1 x pair.0 pair.1) (sym b.1) w.merge))

    merges_from : common ≡ other → (t' s' : List Named) → CleanMerge rest beside t' s' → MergesCleanlyAfterCommon s t t' s'
    merges_from same t' s' merge = record {
      common = common;
      s1 = rest;
      t1 = beside;
      first = subst (λ ls. Splits ls s common rest) are first;
      second = subst (λ f. Splits (common_labels s t) t f beside) (sym same) (subst (λ ls. Splits ls t other beside) are second);
      merge = merge;
    }

    pub merges_as_the_rests : common ≡ other → (merged : Option (List Named × List Named)) → FindsPair (CleanMerge rest beside) merged → FindsPair (MergesCleanlyAfterCommon s t) merged
    merges_as_the_rests same None never = no_clean_merge never
    merges_as_the_rests same (Some pair) merge = merges_from same pair.0 pair.1 merge

pub conflicts_from : (s t : List Named) (x y : ContextedPatch) → s ≡ whole x → t ≡ whole y → NoMerge s t → Conflict x y
conflicts_from s t x y first second never t' s' = subst (λ u. NoMerge u (whole y)) first (subst (λ u. NoMerge s u) second never) (t', s')
