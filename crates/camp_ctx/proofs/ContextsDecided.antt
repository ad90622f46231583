-- It is decidable whether contexted patches commute and conflict, and whether a set has exactly one member.
use Rattle.camp_ctx.proofs.Words.{◌≡◌, None, Some, List, [], ◌∷◌, refl, sym, ap, ◌∙◌, subst, inl, inr, entries, same_entries_map, Key, key_cmp, Named, key_total, key_ties, Decided, decided_by, same_or_not, Splits, TwoOrNone, clean_merge_or_not, splits_or_not, PassesBy, PassesByAll, common_labels, MergesCleanlyAfterCommon, Conflict, ContextedPatch, ContextedPatches, context_key, only, whole}
use Rattle.camp_ctx.proofs.AddResults.{one_passing_of_all, passing_by_or_not, same_in_context}
use Rattle.camp_ctx.proofs.ConflictSteps.{no_first, no_second, other_fronts, merges_as_the_rests}
use Rattle.camp_ctx.proofs.NamedDecided.{both_or_not, named_or_not}
use Rattle.camp_ctx.proofs.SetSteps.{entries-only}

-- two lists are the same or they are not, where this is decided of elements
elements_or_not : {X : Type 0} → ((x y : X) → Decided (x ≡ y)) → (xs ys : List X) → Decided (xs ≡ ys)
elements_or_not decide [] [] = inl refl
elements_or_not decide [] (y ∷ ys) = inr (λ e. cc)
elements_or_not decide (x ∷ xs) [] = inr (λ e. cc)
elements_or_not decide (x ∷ xs) (y ∷ ys) =
    decided_by (λ e i. e.0 i ∷ e.1 i) (λ e. (cc, cc)) (both_or_not (decide x y) (elements_or_not decide xs ys))

pub lists_or_not : (s t : List Named) → Decided (s ≡ t)
lists_or_not = elements_or_not named_or_not

pub in_context_or_not : (x y : ContextedPatch) → Decided (x ≡ y)
in_context_or_not x y =
    decided_by (λ e. same_in_context x y e.0 e.1) (λ e. (ap (λ z. z.context) e, ap (λ z. z.patch) e)) (both_or_not (lists_or_not x.context y.context) (named_or_not x.patch y.patch))

pub keys_or_not : (k l : Key) → Decided (k ≡ l)
keys_or_not = same_or_not key_cmp key_total key_ties

pub list_passes_by_or_not : (r : List Named) (x : ContextedPatch) → Decided ((y : ContextedPatch) × PassesByAll r x y)
list_passes_by_or_not [] x = inl (x, refl)
list_passes_by_or_not (a ∷ r) x = elim (list_passes_by_or_not r x) [
  | inl w ↦ decided_by (λ v. (v.0, (w.0, w.1, v.1))) (λ v. (v.0, subst (λ u. PassesBy a u v.0) (one_passing_of_all r x v.1.0 w.0 v.1.1 w.1) v.1.2)) (passing_by_or_not a w.0)
  | inr never ↦ inr (λ v. never (v.1.0, v.1.1))
]

-- lists merge after their common part exactly if their rests merge
merge_of_rests : (s t : List Named) → (v : (f : List Named) × (r : List Named) × Splits (common_labels s t) s f r) → (w : (f : List Named) × (r : List Named) × Splits (common_labels s t) t f r) → Decided (v.0 ≡ w.0) → TwoOrNone (MergesCleanlyAfterCommon s t)
merge_of_rests s t v w (inl same) = elim (clean_merge_or_not v.1 w.1) [
  | inl m ↦ inl (m.0, m.1, merges_as_the_rests s t (common_labels s t) refl v.0 w.0 v.1 w.1 v.2 w.2 same (Some (m.0, m.1)) m.2)
  | inr never ↦ inr (λ u. merges_as_the_rests s t (common_labels s t) refl v.0 w.0 v.1 w.1 v.2 w.2 same None (λ pair m. never (pair.0, pair.1, m)) (u.0, u.1) u.2)
]
merge_of_rests s t v w (inr apart) = inr (λ u. other_fronts s t (common_labels s t) refl v.0 w.0 v.1 w.1 v.2 w.2 apart (u.0, u.1) u.2)

pub merge_behind_or_not : (s t : List Named) → TwoOrNone (MergesCleanlyAfterCommon s t)
merge_behind_or_not s t = elim (splits_or_not (common_labels s t) s) [
  | inl v ↦ elim (splits_or_not (common_labels s t) t) [
    | inl w ↦ merge_of_rests s t v w (lists_or_not v.0 w.0)
    | inr never ↦ inr (λ u. no_second s t (common_labels s t) refl (λ pair w. never (pair.0, pair.1, w)) (u.0, u.1) u.2)
  ]
  | inr never ↦ inr (λ u. no_first s t (common_labels s t) refl (λ pair w. never (pair.0, pair.1, w)) (u.0, u.1) u.2)
]

pub conflict_or_not : (x y : ContextedPatch) → Decided (Conflict x y)
conflict_or_not x y = elim (merge_behind_or_not (whole x) (whole y)) [
  | inl m ↦ inr (λ never. never m.0 m.1 m.2)
  | inr never ↦ inl (λ t' s' m. never (t', s', m))
]

pub same_alone : {X : Type 0} (x y : X) → x ∷ [] ≡ y ∷ [] → x ≡ y
same_alone x y e = cc

entry_or_not : (e f : Key × ContextedPatch) → Decided (e ≡ f)
entry_or_not e f =
    decided_by (λ same i. (same.0 i, same.1 i)) (λ same. (ap (λ (p : Key × ContextedPatch). p.0) same, ap (λ (p : Key × ContextedPatch). p.1) same)) (both_or_not (keys_or_not e.0 f.0) (in_context_or_not e.1 f.1))

-- two sets are the same, or they are not
pub contexts_or_not : (xs ys : ContextedPatches) → Decided (xs ≡ ys)
contexts_or_not xs ys =
    decided_by (same_entries_map xs ys) (ap entries) (elements_or_not entry_or_not (entries xs) (entries ys))

entries_or_not : (xs : ContextedPatches) (es : List (Key × ContextedPatch)) → entries xs ≡ es → Decided ((y : ContextedPatch) × (xs ≡ only y))
entries_or_not xs [] is = inr (λ y.
    let e : [] ≡ (context_key y.0, y.0) ∷ [] = sym is ∙ ap entries y.1 ∙ entries-only y.0 in cc)
entries_or_not xs (e ∷ es) is =
    decided_by (λ same. (e.1, same)) (λ y.
    let alone : e ∷ es ≡ (context_key y.0, y.0) ∷ [] = sym is ∙ ap entries y.1 ∙ entries-only y.0 in
    let same : e ≡ (context_key y.0, y.0) = cc in
    y.1 ∙ ap (λ (f : Key × ContextedPatch). only f.1) (sym same)) (contexts_or_not xs (only e.1))

-- a set has exactly one member, under its own label, or it is another set
pub only_or_not : (xs : ContextedPatches) → Decided ((x : ContextedPatch) × (xs ≡ only x))
only_or_not xs = entries_or_not xs (entries xs) refl
