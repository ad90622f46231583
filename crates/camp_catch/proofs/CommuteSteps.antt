-- Facts at the returns of commuting.
use Rattle.camp_prim.proofs.CommuteLaws.{own_inverse, square}
use Rattle.camp_seq.proofs.GatherSteps.{length-passes}
use Rattle.camp_catch.proofs.Words.{Bool, Commute, IfOk, List, None, Option, Result, Some, [], ap, arith, eqb-true, inl, inr, length, refl, sym, true, ◌==◌, ◌∙◌, ◌∷◌, ◌≡◌, ◌≤◌, nil_from_length, IfOk-weaker, empty_of_len, get, get-empty, len, FindsPair, inverse_of, key_cmp, Key, Named, Passes, PassesAll, ContextedPatch, ContextedPatches, bare, context_key, patch_key, CommuteConflictors, CommutePlainConflictor, MergeCatch, Plain, ConflictDissolves, OneOfSeveralConflicts, OnlyConflictGoes, PlainLeavesTheSet, PlainPastConflictor, TwoConflictorsApart, Catch, Conflictor}
use Rattle.camp_catch.proofs.CommuteCases.{its_only, lacks_its_only, not_none, only_is_one}

-- two relations with the same results find the same
pub finds_as : {One Other : Catch → Catch → Type 0} → ((k' j' : Catch) → One k' j' → Other k' j') → ((k' j' : Catch) → Other k' j' → One k' j') → (found : Option (Catch × Catch)) → FindsPair One found → FindsPair Other found
finds_as to back None never = λ pair w. never pair (back pair.0 pair.1 w)
finds_as to back (Some pair) w = to pair.0 pair.1 w

pub found_as : {E : Type 0} {One Other : Catch → Catch → Type 0} (r : Result (Option (Catch × Catch)) E) → ((k' j' : Catch) → One k' j' → Other k' j') → ((k' j' : Catch) → Other k' j' → One k' j') → IfOk r (FindsPair One) → IfOk r (FindsPair Other)
found_as {E} {One} {Other} r to back = IfOk-weaker r (FindsPair One) (FindsPair Other) (finds_as to back)

-- a set that has a member, and not only that one, has several
pub has_several : (ys : ContextedPatches) (key : Key) (z : ContextedPatch) → get ys key ≡ Some z → ¬ (len ys ≡ 1) → 2 ≤ len ys
has_several ys key z member not_one =
    let not_empty : ¬ (len ys ≡ 0) = λ none. not_none z (get ys key) member (ap (λ m. get m key) (empty_of_len ys none) ∙ get-empty key_cmp key) in
    omega arith

-- the case of a plain catch before a conflictor
module _ (a : Named) (k : Conflictor) where
  pub plain_passes : get k.conflicts (patch_key a) ≡ None → (k' j' : Catch) → CommutePlainConflictor a k k' j' → PlainPastConflictor a k k' j'
  plain_passes lacks k' j' (inl w) = w
  plain_passes lacks k' j' (inr (inl w)) =
      absurd (lacks_its_only k.conflicts (bare a) (patch_key a) lacks (its_only a k w.q w.is) refl)
  plain_passes lacks k' j' (inr (inr w)) = absurd (not_none w.z (get k.conflicts (patch_key a)) w.member lacks)

  module _ (z : ContextedPatch) (member : get k.conflicts (patch_key a) ≡ Some z) where
    pub plain_dissolves : len k.conflicts ≡ 1 → (k' j' : Catch) → CommutePlainConflictor a k k' j' → ConflictDissolves a k k' j'
    plain_dissolves one k' j' (inl w) = absurd (not_none z (get k.conflicts (patch_key a)) member w.apart)
    plain_dissolves one k' j' (inr (inl w)) = w
    plain_dissolves one k' j' (inr (inr w)) = absurd (let several = w.several in omega arith)

    pub plain_leaves : 2 ≤ len k.conflicts → (k' j' : Catch) → CommutePlainConflictor a k k' j' → PlainLeavesTheSet a k k' j'
    plain_leaves several k' j' (inl w) = absurd (not_none z (get k.conflicts (patch_key a)) member w.apart)
    plain_leaves several k' j' (inr (inl w)) =
        absurd (only_is_one k.conflicts (bare a) (its_only a k w.q w.is) several)
    plain_leaves several k' j' (inr (inr w)) = w

-- the case of a conflictor before a conflictor
module _ (j k : Conflictor) where
  pub are_apart : get k.conflicts (context_key j.identity) ≡ None → (k' j' : Catch) → CommuteConflictors j k k' j' → TwoConflictorsApart j k k' j'
  are_apart lacks k' j' (inl w) = w
  are_apart lacks k' j' (inr (inl w)) =
      absurd (lacks_its_only k.conflicts w.x (context_key j.identity) lacks w.alone w.named)
  are_apart lacks k' j' (inr (inr w)) =
      absurd (not_none w.z (get k.conflicts (context_key j.identity)) w.member lacks)

  module _ (z : ContextedPatch) (member : get k.conflicts (context_key j.identity) ≡ Some z) where
    pub only_goes : len k.conflicts ≡ 1 → (k' j' : Catch) → CommuteConflictors j k k' j' → OnlyConflictGoes j k k' j'
    only_goes one k' j' (inl w) = absurd (not_none z (get k.conflicts (context_key j.identity)) member w.apart)
    only_goes one k' j' (inr (inl w)) = w
    only_goes one k' j' (inr (inr w)) = absurd (let several = w.several in omega arith)

    pub one_of_several : 2 ≤ len k.conflicts → (k' j' : Catch) → CommuteConflictors j k k' j' → OneOfSeveralConflicts j k k' j'
    one_of_several several k' j' (inl w) =
        absurd (not_none z (get k.conflicts (context_key j.identity)) member w.apart)
    one_of_several several k' j' (inr (inl w)) = absurd (only_is_one k.conflicts w.x w.alone several)
    one_of_several several k' j' (inr (inr w)) = w

-- a list keeps its length when a primitive is moved in front of it
pub length-passes_all : (r s s' r' : List Named) → PassesAll r s s' r' → length s' ≡ length s
length-passes_all [] s s' r' w = ap (λ x. length x) w.0
length-passes_all (p ∷ r) s s' r' w = length-passes p w.0 s' w.1 w.4 ∙ length-passes_all r s w.0 w.2 w.3

-- a contexted patch equal to one without a context has none
pub no_context : (x : ContextedPatch) (a : Named) → x ≡ bare a → x ≡ bare x.patch
no_context x a is = is ∙ ap (λ (y : ContextedPatch). bare y.patch) (sym is)

-- a list whose length tests as 0
pub is_nothing : {X : Type 0} (s items : List X) (test : Bool) → test ≡ (length items == 0) → test ≡ true → items ≡ s → s ≡ []
is_nothing s items test is counts same = sym same ∙ nil_from_length items (eqb-true _ _ (sym is ∙ counts))

-- if x commutes past r and becomes x', leaving r', then r commutes past the inverse of x', leaving r' and the inverse
-- of x
pub comes_before_from : (x : Named) (r r' : List Named) (x' : Named) → Passes x r r' x' → PassesAll r (inverse_of x' ∷ []) (inverse_of x ∷ []) r'
comes_before_from x [] r' x' w = (ap (λ y. inverse_of y ∷ []) (sym w.1), w.0)
comes_before_from x (q ∷ s) r' x' w =
    let swapped = own_inverse (inverse_of x) w.0 q (inverse_of w.1) (square x q w.0 w.1 w.3) in
    (inverse_of w.1 ∷ [], w.0, w.2, comes_before_from w.1 s w.2 x' w.4, (inverse_of x, w.0, [], swapped, (refl, refl), refl), w.5)

-- plain catches that commute unchanged merge unchanged
pub plains_stay : (a b : Named) → Commute a b b a → MergeCatch (Plain a) (Plain b) (Plain b) (Plain a)
plains_stay a b stays = inl (record { b' = b; a' = a; merge = square a b b a stays; after = refl; beside = refl })
