-- The cases of commuting exclude one another, and each is determined.
use Rattle.std.specs.Cmp.{Equal-is, tied_itself}
use Rattle.camp_ctx.proofs.SetSteps.{len-only}
use Rattle.camp_catch.proofs.Words.{None, Option, Some, [], ap, arith, cond, inl, inr, refl, subst, sym, ◌∙◌, ◌∷◌, ◌≡◌, ◌≤◌, empty, get, get-insert, len, remove, key_total, le_or_not, swap_or_not, swap_unique, inverse_of, Key, Named, inverse_all, keys_or_not, lists_or_not, ContextedPatch, ContextedPatches, bare, context_key, only, patch_key, CasesExclude, BothPlain, CommuteCatch, CommuteConflictors, CommutePlainConflictor, ConflictDissolves, ConflictorPastPlain, OneOfSeveralConflicts, OnlyConflictGoes, PlainLeavesTheSet, PlainPastConflictor, TwoConflictorsApart, against, in_conflict_with, joined_by, with_effect, without, CatchCommuteIsUnique, Catch, Plain, Conflictor}
use Rattle.camp_catch.proofs.Determined.{Determined, both, chain, either, found, made_of, none_or_not, one_pair, pairs, where_holds}
use Rattle.camp_catch.proofs.PartsDetermined.{adds_to_bare, against_one, all_added_to, all_pass_by, comes_before, effects_pass, fronts, lacks_or_not, one_member, one_passes, order, passes_by}

-- the two catches of a case are determined
abbrev pub IsDetermined : (Catch → Catch → Type 0) → Type 0
IsDetermined Case = Determined (λ (pair : Catch × Catch). Case pair.0 pair.1)

both_plain : (a b : Named) → IsDetermined (BothPlain a b)
both_plain a b =
    made_of (pairs (λ x z y w. swap_unique a b x y z w) (swap_or_not a b)) (λ x. (Plain x.0, Plain x.1)) (λ x w. record { b' = x.0; a' = x.1; swap = w; second = refl; first = refl }) (λ pair c. ((c.b', c.a'), c.swap, λ t. (c.second t, c.first t)))

plain_past_conflictor : (a : Named) (k : Conflictor) → IsDetermined (PlainPastConflictor a k)
plain_past_conflictor a k =
    made_of (where_holds (none_or_not (get k.conflicts (patch_key a))) (λ apart.
    chain (one_passes a k.effect) (λ p passes.
    passes_by p.1 k (order p.0)))) (λ x. (Catch.Conflictor x.1, Plain x.0.1)) (λ x w. record { apart = w.0; passed = x.0.0; a' = x.0.1; passes = w.1.0; moved = x.1; becomes = w.1.1; second = refl; first = refl }) (λ pair c. (((c.passed, c.a'), c.moved), (c.apart, (c.passes, c.becomes)), λ t. (c.second t, c.first t)))

conflictor_past_plain : (j : Conflictor) (b : Named) → IsDetermined (ConflictorPastPlain j b)
conflictor_past_plain j b =
    made_of (chain (comes_before j.effect b) (λ p passes.
    passes_by (inverse_of b) j (order p.1))) (λ x. (Plain x.0.0, Catch.Conflictor x.1)) (λ x w. record { b' = x.0.0; left = x.0.1; passes = w.0; moved = x.1; becomes = w.1; second = refl; first = refl }) (λ pair c. (((c.b', c.left), c.moved), (c.passes, c.becomes), λ t. (c.second t, c.first t)))

two_conflictors_apart : (j k : Conflictor) → IsDetermined (TwoConflictorsApart j k)
two_conflictors_apart j k =
    made_of (where_holds (none_or_not (get k.conflicts (context_key j.identity))) (λ apart.
    where_holds (lacks_or_not (context_key j.identity) k.identity.context) (λ unseen.
    chain (effects_pass j.effect k.effect k.conflicts) (λ e passes.
    both (all_pass_by e.1 e.0 k) (all_added_to (inverse_all k.effect) e.1 j))))) (λ x. (Catch.Conflictor x.1.0, Catch.Conflictor x.1.1)) (λ x w. record { apart = w.0; unseen = w.1.0; effect = x.0.0; rr' = x.0.1; effects = w.1.1.0; moved = x.1.0; becomes = w.1.1.1.0; own = x.1.1; own_becomes = w.1.1.1.1; second = refl; first = refl }) (λ pair c. (((c.effect, c.rr'), (c.moved, c.own)), (c.apart, (c.unseen, (c.effects, (c.becomes, c.own_becomes)))), λ t. (c.second t, c.first t)))

conflict_dissolves : (a : Named) (k : Conflictor) → IsDetermined (ConflictDissolves a k)
conflict_dissolves a k =
    made_of (against_one a k) (λ q. (Plain q, Catch.Conflictor (against q a))) (λ q is. record { q = q; is = is; second = refl; first = refl }) (λ pair c. (c.q, c.is, λ t. (c.second t, c.first t)))

plain_leaves_the_set : (a : Named) (k : Conflictor) → IsDetermined (PlainLeavesTheSet a k)
plain_leaves_the_set a k =
    made_of (chain (found (get k.conflicts (patch_key a))) (λ z member.
    where_holds (keys_or_not (context_key z) (patch_key a)) (λ named.
    where_holds (le_or_not 2 (len k.conflicts)) (λ several.
    chain (fronts (inverse_of a) k.effect) (λ rest front. order rest))))) (λ x. (Catch.Conflictor (with_effect x.1.1 (without (patch_key a) k)), Catch.Conflictor (in_conflict_with k.identity x.0))) (λ x w. record { z = x.0; member = w.0; named = w.1.0; several = w.1.1.0; rest = x.1.0; front = w.1.1.1.0; s' = x.1.1; effect = w.1.1.1.1; second = refl; first = refl }) (λ pair c. ((c.z, (c.rest, c.s')), (c.member, (c.named, (c.several, (c.front, c.effect)))), λ t. (c.second t, c.first t)))

only_conflict_goes : (j k : Conflictor) → IsDetermined (OnlyConflictGoes j k)
only_conflict_goes j k =
    made_of (where_holds (lists_or_not k.effect []) (λ no_effect.
    chain (one_member k.conflicts) (λ x alone.
    where_holds (keys_or_not (context_key x) (context_key j.identity)) (λ named.
    chain (adds_to_bare j.effect k.identity) (λ a adds. order (inverse_of a ∷ j.effect)))))) (λ x. (Plain x.1.0, Catch.Conflictor (with_effect x.1.1 (joined_by k.identity j)))) (λ x w. record { x = x.0; named = w.1.1.0; no_effect = w.0; alone = w.1.0; a = x.1.0; becomes = w.1.1.1.0; effect = x.1.1; joined = w.1.1.1.1; second = refl; first = refl }) (λ pair c. ((c.x, (c.a, c.effect)), (c.no_effect, (c.alone, (c.named, (c.becomes, c.joined)))), λ t. (c.second t, c.first t)))

one_of_several_conflicts : (j k : Conflictor) → IsDetermined (OneOfSeveralConflicts j k)
one_of_several_conflicts j k =
    let key = context_key j.identity in
    made_of (chain (found (get k.conflicts key)) (λ z member.
    where_holds (le_or_not 2 (len k.conflicts)) (λ several.
    chain (effects_pass j.effect k.effect (remove k.conflicts key)) (λ e passes.
    both (all_added_to e.1 e.0 (without key k)) (all_added_to (inverse_all k.effect) e.1 j))))) (λ x. (Catch.Conflictor x.1.1.0, Catch.Conflictor (joined_by k.identity x.1.1.1))) (λ x w. record { z = x.0; member = w.0; several = w.1.0; effect = x.1.0.0; rr' = x.1.0.1; effects = w.1.1.0; moved = x.1.1.0; becomes = w.1.1.1.0; own = x.1.1.1; own_becomes = w.1.1.1.1; second = refl; first = refl }) (λ pair c. ((c.z, ((c.effect, c.rr'), (c.moved, c.own))), (c.member, (c.several, (c.effects, (c.becomes, c.own_becomes)))), λ t. (c.second t, c.first t)))

-- a set of one member has that member
get_only : (x : ContextedPatch) → get (only x) (context_key x) ≡ Some x
get_only x =
    let none : ContextedPatches = empty in
    let k = context_key x in
    get-insert key_total none k x k ∙ ap (λ b. cond b (Some x) (get none k)) ((Equal-is _).1 (tied_itself key_total k))

pub not_none : (x : ContextedPatch) (o : Option ContextedPatch) → o ≡ Some x → o ≡ None → ⊥
not_none x o e f = cc

-- a set that lacks a label is not the set of one member with that label
pub lacks_its_only : (ys : ContextedPatches) (x : ContextedPatch) (key : Key) → get ys key ≡ None → ys ≡ only x → context_key x ≡ key → ⊥
lacks_its_only ys x key lacks alone named =
    not_none x (get ys key) (subst (λ s. get s key ≡ Some x) (sym alone) (subst (λ q. get (only x) q ≡ Some x) named (get_only x))) lacks

pub only_is_one : (ys : ContextedPatches) (x : ContextedPatch) → ys ≡ only x → 2 ≤ len ys → ⊥
only_is_one ys x e several =
    let one : len ys ≡ 1 = ap len e ∙ len-only x in
    absurd (omega (arith, one, several))

-- the conflicts of a conflictor with a alone
pub its_only : (a : Named) (k : Conflictor) (q : Named) → k ≡ against a q → k.conflicts ≡ only (bare a)
its_only a k q is = ap (λ (c : Conflictor). c.conflicts) is

pub cases_exclude : CasesExclude
cases_exclude = record {
  past_dissolves = λ a k k' j' l i v w.
      lacks_its_only k.conflicts (bare a) (patch_key a) v.apart (its_only a k w.q w.is) refl;
  past_leaves = λ a k k' j' l i v w. not_none w.z (get k.conflicts (patch_key a)) w.member v.apart;
  dissolves_leaves = λ a k k' j' l i v w. only_is_one k.conflicts (bare a) (its_only a k v.q v.is) w.several;
  apart_only = λ j k k' j' l i v w.
      lacks_its_only k.conflicts w.x (context_key j.identity) v.apart w.alone w.named;
  apart_several = λ j k k' j' l i v w. not_none w.z (get k.conflicts (context_key j.identity)) w.member v.apart;
  only_several = λ j k k' j' l i v w. only_is_one k.conflicts v.x v.alone w.several;
}

plain_before_conflictor : (a : Named) (k : Conflictor) → IsDetermined (CommutePlainConflictor a k)
plain_before_conflictor a k =
    either (λ x y v w. elim w [
      | inl u ↦ cases_exclude.past_dissolves a k x.0 x.1 y.0 y.1 v u
      | inr u ↦ cases_exclude.past_leaves a k x.0 x.1 y.0 y.1 v u
    ]) (plain_past_conflictor a k) (either (λ x y. cases_exclude.dissolves_leaves a k x.0 x.1 y.0 y.1) (conflict_dissolves a k) (plain_leaves_the_set a k))

conflictor_before_conflictor : (j k : Conflictor) → IsDetermined (CommuteConflictors j k)
conflictor_before_conflictor j k =
    either (λ x y v w. elim w [
      | inl u ↦ cases_exclude.apart_only j k x.0 x.1 y.0 y.1 v u
      | inr u ↦ cases_exclude.apart_several j k x.0 x.1 y.0 y.1 v u
    ]) (two_conflictors_apart j k) (either (λ x y. cases_exclude.only_several j k x.0 x.1 y.0 y.1) (only_conflict_goes j k) (one_of_several_conflicts j k))

-- commuting is determined
pub commuting : (j k : Catch) → IsDetermined (CommuteCatch j k)
commuting (Plain a) (Plain b) = both_plain a b
commuting (Plain a) (Catch.Conflictor k) = plain_before_conflictor a k
commuting (Catch.Conflictor j) (Plain b) = conflictor_past_plain j b
commuting (Catch.Conflictor j) (Catch.Conflictor k) = conflictor_before_conflictor j k

pub one_commuting : CatchCommuteIsUnique
one_commuting j k k' j' l i = one_pair (CommuteCatch j k) (commuting j k).one k' l j' i
