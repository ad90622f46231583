-- Contexted patches that stay unchanged when a primitive that keeps its line commutes past them.
use Rattle.camp_ctx.proofs.Words.{◌≡◌, ◌∙◌, ℕ, suc, get_or, ◌<◌, ◌≤◌, length, Some, Bool, true, false, cond, List, [], ◌∷◌, ◌++◌, map, refl, sym, ap, subst, inl, inr, arith, slice_get, none-some, same_Some, entries, get-entries, len, len-entries, find, eq_by_cmp, inverse_of, label_of, key_of, key_cmp, Commute, Key, Label, Named, inverse_of-inverse_of, Norm, Splits, Parts, Passes, passes_row, chain_is_ordered, AddsToContext, PassesBy, commute, MergesCleanlyAfterCommon, common_labels, has_label, Conflict, ChangesAt, ContextedPatches, EachMember, ContextedPatch, whole}
use Rattle.std.proofs.lemmas.List.Folds.{list_any-append}
use Rattle.std.proofs.Common.{◌||◌}
use Rattle.std.proofs.lemmas.Bool.{false_from_ne_true}
use Rattle.camp_prim.specs.Labels.{label_cmp}
use Rattle.camp_ctx.specs.Contexts.{bare}
use Rattle.camp_ctx.specs.Inside.Apart.{LacksLabels, NoCleanMerge}
use Rattle.camp_ctx.proofs.CommonLabels.{IsIn, in_from_fronts, in_from_has}
use Rattle.camp_ctx.proofs.SetSteps.{members_of}

-- a primitive commutes only past elements with other absolute labels
has_other_labels : (a : Named) (s s' : List Named) (a' : Named) → Passes a s s' a' → (l : Label) → key_of l ≡ key_of (label_of a) → ¬ (IsIn l (map label_of s))
has_other_labels a [] s' a' passes l same among = absurd among
has_other_labels a (q ∷ s) s' a' w l same (inl is) =
    absurd (w.3.anywhere.apart (sym (ap key_of is ∙ same)))
has_other_labels a (q ∷ s) s' a' w l same (inr among) =
    has_other_labels w.1 s _ a' w.4 l (same ∙ ap key_of (sym w.3.anywhere.first)) among

-- a primitive commutes past a contexted patch in normal order, and all stay unchanged
pub passes_as_it_is : (a : Named) (x : ContextedPatch) → Passes a x.context x.context a → Norm x.context x.context → Commute a x.patch x.patch a → PassesBy a x x
passes_as_it_is a x passes own swap =
    record { a' = a; a'' = a; passed = x.context; past_context = passes; past_patch = swap; context = own }

-- then it is added to it so
pub stays_put : (a : Named) (x : ContextedPatch) → Passes a x.context x.context a → PassesBy a x x → AddsToContext a x x
stays_put a x passes = commute (λ y w. has_other_labels a x.context x.context a passes (label_of (inverse_of a)) refl (in_from_fronts _ x.context _ _ w.front))

-- if each entry changes to itself, each value does
same_at_each : (Change : ContextedPatch → ContextedPatch → Type 0) (es : List (Key × ContextedPatch)) → ((k : ℕ) → k < length es → ChangesAt Change (slice_get (map (λ e. e.1) es) k) (slice_get (map (λ e. e.1) es) k)) → (key : Key) → ChangesAt Change (find key_cmp key es) (find key_cmp key es)
same_at_each Change [] own key = tt
same_at_each Change (e ∷ es) own key =
    elim (eq_by_cmp key_cmp key e.0) as (λ b. ChangesAt Change (cond b (Some e.1) (find key_cmp key es)) (cond b (Some e.1) (find key_cmp key es))) [
      | true ↦ own 0 (omega arith)
      | false ↦ same_at_each Change es (λ k within. own (suc k) (omega arith)) key
    ]

pub each_is_same : (Change : ContextedPatch → ContextedPatch → Type 0) (xs : ContextedPatches) (i n : ℕ) → n ≡ len xs → n ≤ i → ((k : ℕ) → k < i → ChangesAt Change (slice_get (members_of xs) k) (slice_get (members_of xs) k)) → EachMember Change xs xs
each_is_same Change xs i n counted past own key =
    let long = len-entries xs in
    subst (λ o. ChangesAt Change o o) (sym (get-entries xs key)) (same_at_each Change (entries xs) (λ k within. own k (omega arith)) key)

-- two lists such that no label of one is in the other have no common label
pub none_in_common : (s t : List Named) → LacksLabels s t → common_labels s t ≡ []
none_in_common [] t lacks = refl
none_in_common (p ∷ s) t lacks =
    ap (λ b. cond b (label_of p ∷ common_labels s t) (common_labels s t)) lacks.0 ∙ none_in_common s t lacks.1

pub no_parts : (t : List Named) → Parts [] t [] t
no_parts [] = (refl, refl)
no_parts (p ∷ t) =
    inr ((λ named. let within = named.1 in absurd (omega arith)), ([], t, p, no_parts t, (refl, refl), refl))

-- splitting off no label gives nothing, and leaves the list in its normal order
pub no_split : (labels : List Label) (t u : List Named) → labels ≡ [] → Norm t u → Splits labels t [] u
no_split labels t u none n =
    subst (λ ls. Splits ls t [] u) (sym none) (record { named = []; others = t; parts = no_parts t; first = refl; rest = n })

module _ (back : Named) (t : List Named) (passes : Passes back t t back) where
  nothing_common : common_labels (inverse_of back ∷ []) t ≡ []
  nothing_common =
      none_in_common (inverse_of back ∷ []) t (false_from_ne_true _ (λ has. has_other_labels back t t back passes _ refl (in_from_has t _ has)), tt)

  -- if the inverse commutes past a list in normal order, and all stay unchanged, the primitive merges with the list
  pub merges_aside : Norm t t → MergesCleanlyAfterCommon (inverse_of back ∷ []) t t (inverse_of back ∷ [])
  merges_aside own = record {
    common = [];
    s1 = inverse_of back ∷ [];
    t1 = t;
    first = no_split _ _ _ nothing_common (chain_is_ordered (inverse_of back ∷ []) (tt, tt));
    second = no_split _ t t nothing_common own;
    merge = (t, inverse_of back, [], passes_row back t t back passes, (refl, refl), refl);
  }

-- the same of a patch without a context, and of what a body has of the two
pub merge_aside_told : (x : ContextedPatch) (t others own : List Named) (first back : Named) → x.context ≡ [] → first ≡ x.patch → back ≡ inverse_of first → others ≡ t → Passes back others others back → own ≡ t → Norm own own → MergesCleanlyAfterCommon (whole x) t t (whole x)
merge_aside_told x t others own first back none copy turned theirs passes also ordered =
    let forth : inverse_of back ≡ x.patch = ap inverse_of (turned ∙ ap inverse_of copy) ∙ inverse_of-inverse_of x.patch in
    let list : inverse_of back ∷ [] ≡ whole x = ap (λ q. q ∷ []) forth ∙ ap (λ c. c ++ x.patch ∷ []) (sym none) in
    subst (λ l. MergesCleanlyAfterCommon l t t l) list
    (merges_aside back t (subst (λ l. Passes back l l back) theirs passes) (subst (λ l. Norm l l) also ordered))

-- a label that the context has, and one that the patch has or neither
module _ (x : ContextedPatch) (c : List Named) (l m : Label) (found : Bool) (is : c ≡ x.context) (same : m ≡ l) (tells : found ≡ has_label c m) where
  both_told : has_label (whole x) l ≡ (found || has_label (x.patch ∷ []) l)
  both_told =
      list_any-append (λ p. eq_by_cmp label_cmp (label_of p) l) x.context (x.patch ∷ [])
      ∙ ap (λ b. b || has_label (x.patch ∷ []) l) (sym (tells ∙ ap (λ s. has_label s m) is ∙ ap (has_label x.context) same))

  pub named_by_context : found ≡ true → true ≡ has_label (whole x) l
  named_by_context has = sym (both_told ∙ ap (λ b. b || has_label (x.patch ∷ []) l) has)

  pub named_by_patch : (t : List Named) (told : Bool) → found ≡ false → t ≡ x.patch ∷ [] → told ≡ has_label t m → told ≡ has_label (whole x) l
  named_by_patch t told lacks own tells_too =
      tells_too ∙ ap (λ s. has_label s m) own ∙ ap (has_label (x.patch ∷ [])) same ∙ sym (both_told ∙ ap (λ b. b || has_label (x.patch ∷ []) l) lacks)

-- the first element of a context is the first of the whole
pub first_of_context : (x : ContextedPatch) (s : List Named) (p : Named) → s ≡ x.context → Some p ≡ slice_get s 0 → (rest : List Named) × (whole x ≡ p ∷ rest)
first_of_context x [] p is there = absurd (none-some p (sym there))
first_of_context x (q ∷ s) p is there =
    (s ++ x.patch ∷ [], ap (λ c. c ++ x.patch ∷ []) (sym is) ∙ ap (λ y. y ∷ s ++ x.patch ∷ []) (sym (same_Some p q there)))

-- the first of a list is the first of it with one more
pub first_of_list : (s : List Named) (patch q : Named) → 0 < length s → q ≡ get_or s 0 q → (rest : List Named) × (s ++ patch ∷ [] ≡ q ∷ rest)
first_of_list [] patch q some is = absurd (omega arith)
first_of_list (p ∷ s) patch q some is = (s ++ patch ∷ [], ap (λ y. y ∷ s ++ patch ∷ []) (sym is))

-- lists do not merge where their first primitives do not
pub firsts_stop : (s t rest more : List Named) (p q : Named) → s ≡ p ∷ rest → t ≡ q ∷ more → NoCleanMerge (p ∷ []) (q ∷ []) → NoCleanMerge s t
firsts_stop s t rest more p q first second never = rw (first, second) (λ t' s' w.
    let row = w.3 in
    never (row.0 ∷ []) (row.1 ∷ []) (row.0 ∷ [], row.1, [], (row.0, row.1, [], row.3, (refl, refl), refl), (refl, refl), refl))

-- if the inverse commutes past a list and the patch after it, and all stay unchanged, the primitive does not conflict
-- with them
pub none_behind : (a patch : Named) (s : List Named) → Passes (inverse_of a) (s ++ patch ∷ []) (s ++ patch ∷ []) (inverse_of a) → Norm (s ++ patch ∷ []) (s ++ patch ∷ []) → ¬ (Conflict (bare a) (record { context = s; patch = patch }))
none_behind a patch s passes own conflict =
    let t : List Named = s ++ patch ∷ [] in
    conflict t (a ∷ []) (subst (λ p. MergesCleanlyAfterCommon (p ∷ []) t t (p ∷ [])) (inverse_of-inverse_of a) (merges_aside (inverse_of a) t passes own))
