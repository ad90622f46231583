-- Adding and passing by have at most one result, and adding always has one.
use Rattle.camp_ctx.proofs.Words.{◌≡◌, List, [], ◌∷◌, refl, sym, ap, ◌∙◌, subst, inl, inr, inverse_of, label_of, key_of, Commute, Named, swap_unique, Norm, Passes, Fronts, one_pass, one_front, one_order, passes_or_not, Decided, decided_by, swap_or_not, Cancels, PassesBy, Keeps, AddsToContext, cancel, commute, keep, FromLast, AddsAll, PassesByAll, ContextedPatch, patch_key, context_key, HasAtMostOneResult, AlwaysHasResult}
use Rattle.camp_seq.proofs.NormalOrders.{front_or_not, has_normal_order}
use Rattle.camp_ctx.proofs.NamedDecided.{named_or_not}

pub same_in_context : (x y : ContextedPatch) → x.context ≡ y.context → x.patch ≡ y.patch → x ≡ y
same_in_context x y contexts patches = λ i. record { context = contexts i; patch = patches i }

-- two normal orders of one list
same_order : (s t u v : List Named) → s ≡ t → Norm s u → Norm t v → u ≡ v
same_order s t u v e n m = one_order t u v (subst (λ l. Norm l u) e n) m

pub one_cancel : (a : Named) → HasAtMostOneResult (Cancels a)
one_cancel a x y z v w = same_in_context y z (same_order _ _ _ _ (one_front _ x.context v.rest w.rest (inverse_of a) (inverse_of a) v.front w.front).1 v.context w.context) (v.patch ∙ sym w.patch)

pub one_passing_by : (a : Named) → HasAtMostOneResult (PassesBy a)
one_passing_by a x y z v w =
    let pass = one_pass a x.context v.passed w.passed v.a' w.a' v.past_context w.past_context in
    let pair = swap_unique w.a' x.patch y.patch v.a'' z.patch w.a'' (subst (λ b. Commute b x.patch y.patch v.a'') pass.1 v.past_patch) w.past_patch in
    same_in_context y z (same_order _ _ _ _ pass.0 v.context w.context) pair.0

one_keep : (a : Named) → HasAtMostOneResult (Keeps a)
one_keep a x y z v w = same_in_context y z (one_order (a ∷ x.context) y.context z.context v.context w.context) (v.patch ∙ sym w.patch)

pub one_add : (a : Named) → HasAtMostOneResult (AddsToContext a)
one_add a x y z (cancel v) (cancel w) = one_cancel a x y z v w
one_add a x y z (cancel v) (commute never w) = absurd (never y v)
one_add a x y z (cancel v) (keep never other w) = absurd (never y v)
one_add a x y z (commute never v) (cancel w) = absurd (never z w)
one_add a x y z (commute never v) (commute other w) = one_passing_by a x y z v w
one_add a x y z (commute never v) (keep other none w) = absurd (none y v)
one_add a x y z (keep never none v) (cancel w) = absurd (never z w)
one_add a x y z (keep never none v) (commute other w) = absurd (none z w)
one_add a x y z (keep never none v) (keep other more w) = one_keep a x y z v w

-- a change of one result makes a change of one result by lists
pub one_from_last : (Change : Named → ContextedPatch → ContextedPatch → Type 0) → ((a : Named) → HasAtMostOneResult (Change a)) → (r : List Named) → HasAtMostOneResult (FromLast Change r)
one_from_last Change one [] x y z v w = v ∙ sym w
one_from_last Change one (a ∷ r) x y z v w =
    one a w.0 y z (subst (λ u. Change a u y) (one_from_last Change one r x v.0 w.0 v.1 w.1) v.2) w.2

pub one_add_of_all : (r : List Named) → HasAtMostOneResult (AddsAll r)
one_add_of_all = one_from_last AddsToContext one_add

pub one_passing_of_all : (r : List Named) → HasAtMostOneResult (PassesByAll r)
one_passing_of_all = one_from_last PassesBy one_passing_by

-- a label can be moved to the front and is then a given primitive, or can't be
abbrev pub FrontAs : Named → List Named → Type 0
FrontAs y s = (rest : List Named) × Fronts (label_of y) s y rest

pub front_as_or_not : (y : Named) (s : List Named) → Decided (FrontAs y s)
front_as_or_not y s = elim (front_or_not (label_of y) s) [
  | inl f ↦ decided_by (λ e. (f.1, subst (λ z. Fronts (label_of y) s z f.1) e f.2)) (λ g. (one_front (label_of y) s f.1 g.0 f.0 y f.2 g.1).0) (named_or_not f.0 y)
  | inr never ↦ inr (λ g. never (y, g.0, g.1))
]

cancel_or_not : (a : Named) (x : ContextedPatch) → Decided ((y : ContextedPatch) × Cancels a x y)
cancel_or_not a x =
    decided_by (λ f. let order = has_normal_order f.0 in (record { context = order.0; patch = x.patch }, record { rest = f.0; front = f.1; context = order.1; patch = refl })) (λ c. (c.1.rest, c.1.front)) (front_as_or_not (inverse_of a) x.context)

pass_patch_or_not : (a : Named) (x : ContextedPatch) → ((s' : List Named) × (p' : Named) × Passes a x.context s' p') → Decided ((y : ContextedPatch) × PassesBy a x y)
pass_patch_or_not a x w =
    decided_by (λ v.
    let order = has_normal_order w.0 in
    (record { context = order.0; patch = v.0 }, record { a' = w.1; a'' = v.1; passed = w.0; past_context = w.2; past_patch = v.2; context = order.1 })) (λ c.
    let pass = one_pass a x.context c.1.passed w.0 c.1.a' w.1 c.1.past_context w.2 in
    (c.0.patch, c.1.a'', subst (λ b. Commute b x.patch c.0.patch c.1.a'') pass.1 c.1.past_patch)) (swap_or_not w.1 x.patch)

pub passing_by_or_not : (a : Named) (x : ContextedPatch) → Decided ((y : ContextedPatch) × PassesBy a x y)
passing_by_or_not a x = elim (passes_or_not a x.context) [
  | inl w ↦ pass_patch_or_not a x w
  | inr never ↦ inr (λ c. never (c.1.passed, c.1.a', c.1.past_context))
]

pub add_exists : (a : Named) → AlwaysHasResult (AddsToContext a)
add_exists a x = elim (cancel_or_not a x) [
  | inl c ↦ (c.0, cancel c.1)
  | inr never ↦ elim (passing_by_or_not a x) [
    | inl c ↦ (c.0, commute (λ y w. never (y, w)) c.1)
    | inr none ↦
        let order = has_normal_order (a ∷ x.context) in
        (record { context = order.0; patch = x.patch }, keep (λ y w. never (y, w)) (λ y w. none (y, w)) (record { context = order.1; patch = refl }))
  ]
]

pub add_of_all_exists : (r : List Named) → AlwaysHasResult (AddsAll r)
add_of_all_exists [] x = (x, refl)
add_of_all_exists (a ∷ r) x =
    let rest = add_of_all_exists r x in
    let last = add_exists a rest.0 in
    (last.0, (rest.0, rest.1, last.1))

-- adding keeps the absolute label
same_key_of_one : (a : Named) (x y : ContextedPatch) → AddsToContext a x y → context_key y ≡ context_key x
same_key_of_one a x y (cancel w) = ap patch_key w.patch
same_key_of_one a x y (commute never w) = ap key_of w.past_patch.anywhere.second
same_key_of_one a x y (keep never none w) = ap patch_key w.patch

pub same_key_of_sum : (r : List Named) (x y : ContextedPatch) → AddsAll r x y → context_key y ≡ context_key x
same_key_of_sum [] x y is = ap context_key is
same_key_of_sum (a ∷ r) x y w = same_key_of_one a w.0 y w.2 ∙ same_key_of_sum r x w.0 w.1
