-- Merging after a common part has at most one result and is symmetric; so is conflict.
use Rattle.camp_ctx.proofs.Words.{◌≡◌, List, [], ◌∷◌, subst, inl, inr, Contains, label_of, Label, Named, CleanMerge, Splits, Parts, one_split, one_clean_merge, merge_is_symmetric, common_labels, MergesCleanlyAfterCommon, Conflict, ContextedPatch, whole}
use Rattle.camp_ctx.specs.Laws.{AreSymmetric}
use Rattle.camp_ctx.proofs.CommonLabels.{common_turned}

pub one_merge_behind : (s t t' s' u v : List Named) → MergesCleanlyAfterCommon s t t' s' → MergesCleanlyAfterCommon s t u v → (t' ≡ u) × (s' ≡ v)
one_merge_behind s t t' s' u v a b =
    let first = one_split (common_labels s t) s a.common a.s1 b.common b.s1 a.first b.first in
    let second = one_split (common_labels s t) t a.common a.t1 b.common b.t1 a.second b.second in
    one_clean_merge b.s1 b.t1 t' s' u v (subst (λ x. CleanMerge x b.t1 t' s') first.1 (subst (λ x. CleanMerge a.s1 x t' s') second.1 a.merge)) b.merge

-- splitting by labels depends on which labels there are, not on their order
parts_alike : (ls ms : List Label) → ((l : Label) → Contains ls l → Contains ms l) → ((l : Label) → Contains ms l → Contains ls l) → (s f t : List Named) → Parts ls s f t → Parts ms s f t
parts_alike ls ms there back [] f t w = w
parts_alike ls ms there back (p ∷ s) f t (inl w) =
    let rest = w.1 in
    inl (there (label_of p) w.0, (rest.0, parts_alike ls ms there back s rest.0 t rest.1, rest.2))
parts_alike ls ms there back (p ∷ s) f t (inr w) =
    let rest = w.1 in
    inr ((λ among. w.0 (back (label_of p) among)), (rest.0, rest.1, rest.2, parts_alike ls ms there back s rest.0 rest.1 rest.3, rest.4, rest.5))

splits_alike : (ls ms : List Label) → ((l : Label) → Contains ls l → Contains ms l) → ((l : Label) → Contains ms l → Contains ls l) → (s f t : List Named) → Splits ls s f t → Splits ms s f t
splits_alike ls ms there back s f t w = record {
  named = w.named;
  others = w.others;
  parts = parts_alike ls ms there back s w.named w.others w.parts;
  first = w.first;
  rest = w.rest;
}

pub merge_behind_is_symmetric : (s t t' s' : List Named) → MergesCleanlyAfterCommon s t t' s' → MergesCleanlyAfterCommon t s s' t'
merge_behind_is_symmetric s t t' s' w = record {
  common = w.common;
  s1 = w.t1;
  t1 = w.s1;
  first = splits_alike (common_labels s t) (common_labels t s) (common_turned s t) (common_turned t s) t w.common w.t1 w.second;
  second = splits_alike (common_labels s t) (common_labels t s) (common_turned s t) (common_turned t s) s w.common w.s1 w.first;
  merge = merge_is_symmetric w.s1 w.t1 t' s' w.merge;
}

pub conflict_is_symmetric : (x y : ContextedPatch) → Conflict x y → Conflict y x
conflict_is_symmetric x y c t' s' w = c s' t' (merge_behind_is_symmetric (whole y) (whole x) t' s' w)

pub are_symmetric : AreSymmetric
are_symmetric = record { merges = merge_behind_is_symmetric; conflicts = conflict_is_symmetric }
