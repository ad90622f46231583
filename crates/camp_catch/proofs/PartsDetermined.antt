-- The parts of each case are determined.
use Rattle.std.proofs.lemmas.List.Elements.{All-nil, All-cons, All-head, All-tail}
use Rattle.std.specs.List.{All}
use Rattle.camp_seq.proofs.NormalOrders.{has_normal_order}
use Rattle.camp_ctx.proofs.SetSteps.{entries-only}
use Rattle.camp_catch.proofs.Words.{List, [], ap, inl, inr, refl, subst, sym, ◌++◌, ◌∙◌, ◌∷◌, ◌≡◌, ◌≢◌, entries, Decided, decided_by, label_of, Key, Named, one_front, one_order, one_pass, one_pass_of_all, one_split, all_pass_or_not, passes_or_not, splits_or_not, Norm, Splits, Fronts, Passes, PassesAll, add_exists, add_of_all_exists, front_as_or_not, one_add, one_add_of_all, one_passing_by, one_passing_of_all, passing_by_or_not, same_in_context, contexts_or_not, in_context_or_not, keys_or_not, list_passes_by_or_not, lists_or_not, only_or_not, same_alone, both_or_not, members_change, one_change_of_members, AddsToContext, AddsAll, PassesBy, PassesByAll, ContextedPatch, ContextedPatches, EachMember, bare, context_key, only, patch_key, AlwaysHasResult, HasAtMostOneResult, EffectsPass, labels_undone, Becomes, against, Conflictor}
use Rattle.camp_catch.proofs.Determined.{Determined, always, both, chain, just, made_of, not_or_not, pairs}

pub one_passes : (a : Named) (s : List Named) → Determined (λ (p : List Named × Named). Passes a s p.0 p.1)
one_passes a s = pairs (one_pass a s) (passes_or_not a s)

pub all_pass : (r s : List Named) → Determined (λ (p : List Named × List Named). PassesAll r s p.0 p.1)
all_pass r s = pairs (one_pass_of_all r s) (all_pass_or_not r s)

pub order : (s : List Named) → Determined (Norm s)
order s = always (one_order s) (has_normal_order s)

pub fronts : (y : Named) (s : List Named) → Determined (Fronts (label_of y) s y)
fronts y s = record { one = λ t u v w. (one_front (label_of y) s t u y y v w).1; decided = front_as_or_not y s }

pub adds_all : (r : List Named) (x : ContextedPatch) → Determined (AddsAll r x)
adds_all r x = always (one_add_of_all r x) (add_of_all_exists r x)

-- the parts of a contexted patch without a context
pub adds_to_bare : (r : List Named) (x : ContextedPatch) → Determined (λ a. AddsAll r x (bare a))
adds_to_bare r x =
    let seen = add_of_all_exists r x in record {
      one = λ a b v w. ap (λ (y : ContextedPatch). y.patch) (one_add_of_all r x (bare a) (bare b) v w);
      decided = decided_by (λ e. (seen.0.patch, subst (AddsAll r x) (same_in_context seen.0 (bare seen.0.patch) e refl) seen.1)) (λ a. ap (λ (y : ContextedPatch). y.context) (one_add_of_all r x seen.0 (bare a.0) seen.1 a.1)) (lists_or_not seen.0.context []);
    }

-- the one member of a set
pub same_only : (xs : ContextedPatches) (x y : ContextedPatch) → xs ≡ only x → xs ≡ only y → x ≡ y
same_only xs x y e f =
    ap (λ (e : Key × ContextedPatch). e.1) (same_alone (context_key x, x) (context_key y, y) (sym (entries-only x) ∙ ap entries (sym e ∙ f) ∙ entries-only y))

pub one_member : (xs : ContextedPatches) → Determined (λ x. xs ≡ only x)
one_member xs = record { one = same_only xs; decided = only_or_not xs }

pub all_or_not : {X : Type 0} (Holds : X → Type 0) → ((x : X) → Decided (Holds x)) → (xs : List X) → Decided (All Holds xs)
all_or_not Holds each [] = inl (All-nil Holds)
all_or_not Holds each (x ∷ xs) = elim (each x) [
  | inl fact ↦ decided_by (All-cons Holds x xs fact) (All-tail Holds x xs) (all_or_not Holds each xs)
  | inr never ↦ inr (λ w. never (All-head Holds x xs w))
]

pub lacks_or_not : (key : Key) (s : List Named) → Decided (All (λ p. patch_key p ≢ key) s)
lacks_or_not key s = all_or_not (λ p. patch_key p ≢ key) (λ p. not_or_not (keys_or_not (patch_key p) key)) s

abbrev conflictor_of : List Named × (ContextedPatches × ContextedPatch) → Conflictor
conflictor_of parts = record { effect = parts.0; conflicts = parts.1.0; identity = parts.1.1 }

-- it is decidable whether two conflictors are equal
pub conflictor_or_not : (j k : Conflictor) → Decided (j ≡ k)
conflictor_or_not j k =
    decided_by (λ e. λ t. conflictor_of (e.0 t, (e.1.0 t, e.1.1 t))) (λ e. (ap (λ (c : Conflictor). c.effect) e, (ap (λ (c : Conflictor). c.conflicts) e, ap (λ (c : Conflictor). c.identity) e))) (both_or_not (lists_or_not j.effect k.effect) (both_or_not (contexts_or_not j.conflicts k.conflicts) (in_context_or_not j.identity k.identity)))

-- the identity of a conflictor with a alone
pub against_one : (a : Named) (k : Conflictor) → Determined (λ q. k ≡ against a q)
against_one a k = record {
  one = λ q p v w. ap (λ (c : Conflictor). c.identity.patch) (sym v ∙ w);
  decided = decided_by (λ e. (k.identity.patch, e)) (λ w. w.1 ∙ ap (against a) (sym (ap (λ (c : Conflictor). c.identity.patch) w.1))) (conflictor_or_not k (against a k.identity.patch));
}

-- the conflictor that a conflictor becomes, part by part
pub becomes : {IsEffect : List Named → Type 0} {Member Identity : ContextedPatch → ContextedPatch → Type 0} (old : Conflictor) → Determined IsEffect → HasAtMostOneResult Member → AlwaysHasResult Member → Determined (Identity old.identity) → Determined (Becomes IsEffect Member Identity old)
becomes {IsEffect} {Member} {Identity} old effect one exists identity =
    let members : Determined (EachMember Member old.conflicts) = always (one_change_of_members Member one old.conflicts) (members_change Member exists old.conflicts) in
    made_of (both effect (both members identity)) conflictor_of (λ x w. record { effect = w.0; conflicts = w.1.0; identity = w.1.1 }) (λ new w. ((new.effect, (new.conflicts, new.identity)), (w.effect, (w.conflicts, w.identity)), refl))

pub adds_to : {IsEffect : List Named → Type 0} (a : Named) (old : Conflictor) → Determined IsEffect → Determined (Becomes IsEffect (AddsToContext a) (AddsToContext a) old)
adds_to a old effect =
    becomes old effect (one_add a) (add_exists a) (always (one_add a old.identity) (add_exists a old.identity))

pub passes_by : {IsEffect : List Named → Type 0} (a : Named) (old : Conflictor) → Determined IsEffect → Determined (Becomes IsEffect (AddsToContext a) (PassesBy a) old)
passes_by a old effect =
    becomes old effect (one_add a) (add_exists a) (record { one = one_passing_by a old.identity; decided = passing_by_or_not a old.identity })

pub all_added_to : (r s : List Named) (old : Conflictor) → Determined (Becomes (λ t. t ≡ s) (AddsAll r) (AddsAll r) old)
all_added_to r s old = becomes old (just s) (one_add_of_all r) (add_of_all_exists r) (adds_all r old.identity)

pub all_pass_by : (r s : List Named) (old : Conflictor) → Determined (Becomes (λ t. t ≡ s) (AddsAll r) (PassesByAll r) old)
all_pass_by r s old =
    becomes old (just s) (one_add_of_all r) (add_of_all_exists r) (record { one = one_passing_of_all r old.identity; decided = list_passes_by_or_not r old.identity })

-- a list has exactly one element, or it does not
alone_or_not : (s : List Named) → Decided ((p : Named) × (s ≡ p ∷ []))
alone_or_not [] = inr (λ w. let is = w.1 in cc)
alone_or_not (p ∷ []) = inl (p, refl)
alone_or_not (p ∷ q ∷ s) = inr (λ w. let is = w.1 in cc)

-- a primitive at the front of a list
pub comes_before : (r : List Named) (b : Named) → Determined (λ (p : Named × List Named). PassesAll r (b ∷ []) (p.0 ∷ []) p.1)
comes_before r b = record {
  one = λ p q v w.
      let same = one_pass_of_all r (b ∷ []) (p.0 ∷ []) (q.0 ∷ []) p.1 q.1 v w in
      let head = same_alone p.0 q.0 same.0 in
      λ t. (head t, same.1 t);
  decided = elim (all_pass_or_not r (b ∷ [])) [
    | inl w ↦ decided_by (λ p. ((p.0, w.1), subst (λ t. PassesAll r (b ∷ []) t w.1) p.1 w.2)) (λ q. (q.0.0, sym (one_pass_of_all r (b ∷ []) (q.0.0 ∷ []) w.0 q.0.1 w.1 q.1 w.2).0)) (alone_or_not w.0)
    | inr never ↦ inr (λ q. never (q.0.0 ∷ [], q.0.1, q.1))
  ];
}

pub effects_pass : (r s : List Named) (ys : ContextedPatches) → Determined (λ (p : List Named × List Named). EffectsPass r s ys p.0 p.1)
effects_pass r s ys =
    let labels = labels_undone r ys in
    let parts : Determined (λ (p : List Named × List Named). Splits labels r p.0 p.1) = pairs (λ x z y w. one_split labels r x y z w) (splits_or_not labels r) in
    made_of (chain parts (λ p split. chain (all_pass p.1 s) (λ w passes. chain (order w.0) (λ s' second. both (order (p.0 ++ s')) (order w.1))))) (λ x. x.1.1.1) (λ x w. record { common = x.0.0; rr = x.0.1; split = w.0; passed = x.1.0.0; left = x.1.0.1; passes = w.1.0; s' = x.1.1.0; second = w.1.1.0; first = w.1.1.1.1; whole = w.1.1.1.0 }) (λ p c. (((c.common, c.rr), ((c.passed, c.left), (c.s', (p.0, p.1)))), (c.split, (c.passes, (c.second, (c.whole, c.first)))), refl))
