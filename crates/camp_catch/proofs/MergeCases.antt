-- The cases of merging exclude one another, and each is determined.
use Rattle.camp_catch.proofs.Words.{List, ap, refl, subst, sym, ◌∷◌, inverse_of-inverse_of, Decided, decided_by, swap_or_not, swap_unique, inverse_of, Commute, Named, passes_row, row_passes, Merges, MergesOne, inverse_all, one_add_of_all, one_merge_behind, conflict_or_not, merge_behind_or_not, Conflict, ContextedPatch, bare, MergeCasesExclude, against, in_conflict_with, joined_by, with_effect, MergeIsUnique, Clean, FirstConflict, JoinsWhere, MergeCatch, MergePlainConflictor, Mirror, PlainBesideConflictor, PlainJoinsConflictor, TwoConflictors, Catch, Plain, Conflictor}
use Rattle.camp_catch.proofs.CommuteCases.{IsDetermined}
use Rattle.camp_catch.proofs.Determined.{Determined, both, chain, either, just, made_of, not_or_not, one_pair, pairs, where_holds}
use Rattle.camp_catch.proofs.PartsDetermined.{adds_all, adds_to, all_added_to, one_passes, order}

-- two primitives merge cleanly if the inverse of the first commutes past the second
clean_merge : (a b : Named) → Determined (λ (p : Named × Named). Merges a b p.0 p.1)
clean_merge a b =
    made_of (pairs (λ x z y w. swap_unique (inverse_of a) b x y z w) (swap_or_not (inverse_of a) b)) (λ x. (x.0, inverse_of x.1)) (λ x w. subst (Commute (inverse_of a) b x.0) (sym (inverse_of-inverse_of x.1)) w) (λ p m. ((p.0, inverse_of p.1), m, λ t. (p.0, sym (inverse_of-inverse_of p.1) t)))

-- a primitive merges cleanly with a list if its inverse commutes past the list
row : (a : Named) (s : List Named) → Determined (λ (p : List Named × Named). MergesOne a s p.0 p.1)
row a s =
    made_of (one_passes (inverse_of a) s) (λ x. (x.0, inverse_of x.1)) (λ x w. subst (λ p. MergesOne p s x.0 (inverse_of x.1)) (inverse_of-inverse_of a) (passes_row (inverse_of a) s x.0 x.1 w)) (λ p m. ((p.0, inverse_of p.1), row_passes a s p.0 p.1 m, λ t. (p.0, sym (inverse_of-inverse_of p.1) t)))

clean : (a b : Named) → IsDetermined (Clean a b)
clean a b =
    made_of (clean_merge a b) (λ x. (Plain x.0, Plain x.1)) (λ x w. record { b' = x.0; a' = x.1; merge = w; after = refl; beside = refl }) (λ pair c. ((c.b', c.a'), c.merge, λ t. (c.after t, c.beside t)))

no_merge_or_not : (a b : Named) → Decided ((b' a' : Named) → ¬ (Merges a b b' a'))
no_merge_or_not a b =
    decided_by (λ never b' a' m. never ((b', a'), m)) (λ none w. none w.0.0 w.0.1 w.1) (not_or_not (clean_merge a b).decided)

first_conflict : (a b : Named) → IsDetermined (FirstConflict a b)
first_conflict a b =
    made_of (where_holds (no_merge_or_not a b) (λ conflict. just (Catch.Conflictor (against a b), Catch.Conflictor (against b a)))) (λ x. x) (λ x w. record { no_merge = w.0; after = ap (λ (p : Catch × Catch). p.0) w.1; beside = ap (λ (p : Catch × Catch). p.1) w.1 }) (λ pair c. (pair, (c.no_merge, λ t. (c.after t, c.beside t)), refl))

plain_beside_conflictor : (a : Named) (k : Conflictor) → IsDetermined (PlainBesideConflictor a k)
plain_beside_conflictor a k =
    made_of (chain (adds_all k.effect k.identity) (λ seen sees.
    where_holds (not_or_not (conflict_or_not (bare a) seen)) (λ apart.
    chain (row a k.effect) (λ p merges. adds_to (inverse_of p.1) k (order p.0))))) (λ x. (Catch.Conflictor x.1.1, Plain x.1.0.1)) (λ x w. record { seen = x.0; sees = w.0; apart = w.1.0; merged = x.1.0.0; a' = x.1.0.1; merge = w.1.1.0; moved = x.1.1; becomes = w.1.1.1; after = refl; beside = refl }) (λ pair c. ((c.seen, ((c.merged, c.a'), c.moved)), (c.sees, (c.apart, (c.merge, c.becomes))), λ t. (c.after t, c.beside t)))

plain_joins_conflictor : (a : Named) (k : Conflictor) → IsDetermined (PlainJoinsConflictor a k)
plain_joins_conflictor a k =
    made_of (chain (adds_all k.effect k.identity) (λ seen sees.
    where_holds (conflict_or_not (bare a) seen) (λ conflict.
    both (adds_all (inverse_all k.effect) (bare a)) (order (inverse_of a ∷ k.effect))))) (λ x. (Catch.Conflictor (with_effect x.1.1 (joined_by x.1.0 k)), Catch.Conflictor (in_conflict_with k.identity x.1.0))) (λ x w. record { seen = x.0; sees = w.0; conflict = w.1.0; z = x.1.0; becomes = w.1.1.0; effect = x.1.1; joined = w.1.1.1; after = refl; beside = refl }) (λ pair c. ((c.seen, (c.z, c.effect)), (c.sees, (c.conflict, (c.becomes, c.joined))), λ t. (c.after t, c.beside t)))

joins : {Holds : Type 0} → Decided Holds → (l : ContextedPatch) (old : Conflictor) → Determined (JoinsWhere Holds l old)
joins holds l old =
    either (λ x y v w. w.0 v.0) (where_holds holds (λ yes. just (joined_by l old))) (where_holds (not_or_not holds) (λ no. just old))

two_conflictors : (j k : Conflictor) → IsDetermined (TwoConflictors j k)
two_conflictors j k =
    made_of (chain (pairs (λ x z y w. one_merge_behind j.effect k.effect x y z w) (merge_behind_or_not j.effect k.effect)) (λ p merges.
    chain (both (order p.0) (order p.1)) (λ e orders.
    chain (both (all_added_to (inverse_all e.1) e.0 k) (all_added_to (inverse_all e.0) e.1 j)) (λ m becomes.
    chain (both (adds_all k.effect k.identity) (adds_all j.effect j.identity)) (λ y sees.
    let holds = conflict_or_not y.1 y.0 in
    both (joins holds m.1.identity m.0) (joins holds m.0.identity m.1)))))) (λ x. (Catch.Conflictor x.1.1.1.1.0, Catch.Conflictor x.1.1.1.1.1)) (λ x w. record {
      merged = x.0.0;
      left = x.0.1;
      merge = w.0;
      s2 = x.1.0.0;
      r2 = x.1.0.1;
      effect = w.1.0.0;
      own_effect = w.1.0.1;
      moved = x.1.1.0.0;
      own = x.1.1.0.1;
      becomes = w.1.1.0.0;
      own_becomes = w.1.1.0.1;
      y = x.1.1.1.0.0;
      x = x.1.1.1.0.1;
      sees = w.1.1.1.0.0;
      own_sees = w.1.1.1.0.1;
      joined = x.1.1.1.1.0;
      own_joined = x.1.1.1.1.1;
      joins = w.1.1.1.1.0;
      own_joins = w.1.1.1.1.1;
      after = refl;
      beside = refl;
    }) (λ pair c. (((c.merged, c.left), ((c.s2, c.r2), ((c.moved, c.own), ((c.y, c.x), (c.joined, c.own_joined))))), (c.merge, ((c.effect, c.own_effect), ((c.becomes, c.own_becomes), ((c.sees, c.own_sees), (c.joins, c.own_joins))))), λ t. (c.after t, c.beside t)))

pub cases_exclude : MergeCasesExclude
cases_exclude = record {
  both_plain = λ a b k' j' k j v w. w.no_merge v.b' v.a' v.merge;
  plain_and_conflictor = λ a k k' j' l i v w.
      v.apart (subst (Conflict (bare a)) (one_add_of_all k.effect k.identity w.seen v.seen w.sees v.sees) w.conflict);
}

plain_and_conflictor : (a : Named) (k : Conflictor) → IsDetermined (MergePlainConflictor a k)
plain_and_conflictor a k =
    either (λ x y. cases_exclude.plain_and_conflictor a k x.0 x.1 y.0 y.1) (plain_beside_conflictor a k) (plain_joins_conflictor a k)

mirror : (j : Conflictor) (b : Named) → IsDetermined (Mirror j b)
mirror j b = made_of (plain_and_conflictor b j) (λ x. (x.1, x.0)) (λ x w. w) (λ pair c. ((pair.1, pair.0), c, refl))

-- merging is determined
pub merging : (j k : Catch) → IsDetermined (MergeCatch j k)
merging (Plain a) (Plain b) =
    either (λ x y. cases_exclude.both_plain a b x.0 x.1 y.0 y.1) (clean a b) (first_conflict a b)
merging (Plain a) (Catch.Conflictor k) = plain_and_conflictor a k
merging (Catch.Conflictor j) (Plain b) = mirror j b
merging (Catch.Conflictor j) (Catch.Conflictor k) = two_conflictors j k

pub one_merging : MergeIsUnique
one_merging j k k' j' l i = one_pair (MergeCatch j k) (merging j k).one k' l j' i
