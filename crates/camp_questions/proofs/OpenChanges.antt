-- The unresolved conflicts of a branch are one list, and what is in one such list and not in another is found.
use Rattle.camp_questions.proofs.Words.{◌≡◌, ◌≤◌, ◌<◌, ℕ, ◌+◌, true, false, List, [], ◌∷◌, ◌++◌, length, get_or, Option, None, Some, Result, Ok, Err, refl, sym, ap, ◌∙◌, subst, arith, none-some, same_Some, MatchOption, Contains, Contains-get_or, list_any, false_from_ne_true, cases_lt, inl, inr, flat_map, get, same_map, FinMap, Catch, effect_of, inverse_all, AddsAll, Key, key_cmp, key_total, key_ties, AnswerOf, NoBranch, ContextedPatch, Pair, AreUnresolvedAmong, AreUnresolvedIn, IsSeen, HaveNoContexted, contexted_in, Contents, catches_of}
use Rattle.std.proofs.lemmas.List.Sorted.{searchable_from_sorted}
use Rattle.std.proofs.lemmas.Map.Views.{Contains-from_any, list_any-from_Contains, tells_apart}
use Rattle.std.specs.Cmp.{both_tied, eq_by_cmp_equiv, tied_itself}
use Rattle.std.specs.Cmp.Lexicographic.{texts_ties}
use Rattle.std.specs.List.Sorted.{IsBinarySearchResult, IsSearchInRange, IsSortedBy}
use Rattle.std.specs.Ordering.{eq_by_cmp, is_lt, ordering_reverse}
use Rattle.std.specs.Prelude.{AllPairs, is_ok}
use Rattle.std.specs.declared.cmp.Ordering.TheVariants.{Less, Equal, Greater}
use Rattle.camp_branch.proofs.SortedPairs.{Within, ascending_once, by_names, by_names_total, less_by_before, pairs_tie, by_name, same_names}
use Rattle.camp_branch.specs.Conflicting.{IsBefore}
use Rattle.camp_ctx.proofs.AddResults.{one_add_of_all}
use Rattle.camp_questions.specs.Foresight.{AreUnresolvedAt, OpensAndResolves, is_pair_among, pairs_without}
use Rattle.camp_questions.specs.OpenConflicts.{AreUnresolved}

-- ---- a label in conflict is seen in one way

-- where no catch of a list has a label, the one at a place has not
nothing_at : (before : List Catch) (k : Catch) (behind : List Catch) (key : Key) → HaveNoContexted (before ++ k ∷ behind) key → contexted_in k key ≡ None
nothing_at [] k behind key nothing = nothing.0
nothing_at (c ∷ before) k behind key nothing = nothing_at before k behind key nothing.1

not_told : {A : Type 0} (k : Catch) (key : Key) (x : ContextedPatch) → contexted_in k key ≡ None → contexted_in k key ≡ Some x → A
not_told k key x none is = absurd (none-some x (sym none ∙ is))

-- the last catch with a label is one, and so are the catches after it
last_once : (key : Key) (before others : List Catch) (k j : Catch) (behind rest : List Catch) (x y : ContextedPatch) → before ++ k ∷ behind ≡ others ++ j ∷ rest → HaveNoContexted behind key → HaveNoContexted rest key → contexted_in k key ≡ Some x → contexted_in j key ≡ Some y → (k ≡ j) × (behind ≡ rest)
last_once key [] [] k j behind rest x y e m n is also = (cc e, cc e)
last_once key [] (c ∷ others) k j behind rest x y e m n is also =
    let tail : behind ≡ others ++ j ∷ rest = cc e in
    not_told j key y (nothing_at others j rest key (subst (λ l. HaveNoContexted l key) tail m)) also
last_once key (c ∷ before) [] k j behind rest x y e m n is also =
    let tail : before ++ k ∷ behind ≡ rest = cc e in
    not_told k key x (nothing_at before k behind key (subst (λ l. HaveNoContexted l key) (sym tail) n)) is
last_once key (c ∷ before) (d ∷ others) k j behind rest x y e m n is also =
    last_once key before others k j behind rest x y (cc e) m n is also

seen_once : (branch : List Catch) (key : Key) (s t : ContextedPatch) → IsSeen branch key s → IsSeen branch key t → s ≡ t
seen_once branch key s t v w =
    let last = last_once key v.before w.before v.k w.k v.behind w.behind v.x w.x (sym v.parts ∙ w.parts) v.last w.last v.told w.told in
    let members = same_Some _ _ (sym v.told ∙ ap (λ k. contexted_in k key) last.0 ∙ w.told) in
    let added = subst (λ l. AddsAll (inverse_all (flat_map effect_of l)) w.x t) (sym last.1) w.added in
    one_add_of_all (inverse_all (flat_map effect_of v.behind)) v.x s t v.added (subst (λ x. AddsAll (inverse_all (flat_map effect_of v.behind)) x t) (sym members) added)

not_seen : {A : Type 0} (branch : List Catch) (key : Key) (s : ContextedPatch) → HaveNoContexted branch key → IsSeen branch key s → A
not_seen branch key s nothing v =
    not_told v.k key v.x (nothing_at v.before v.k v.behind key (subst (λ l. HaveNoContexted l key) v.parts nothing)) v.told

seen_alike : (branch : List Catch) (key : Key) (o p : Option ContextedPatch) → MatchOption o (HaveNoContexted branch key) (IsSeen branch key) → MatchOption p (HaveNoContexted branch key) (IsSeen branch key) → o ≡ p
seen_alike branch key None None v w = refl
seen_alike branch key None (Some t) v w = not_seen branch key t v w
seen_alike branch key (Some s) None v w = not_seen branch key s w v
seen_alike branch key (Some s) (Some t) v w = ap Some (seen_once branch key s t v w)

-- ---- unresolved conflicts are one list

within_other : (branch : List Catch) (seen : FinMap key_cmp ContextedPatch) (pairs others : List Pair) → AreUnresolvedAmong branch seen pairs → AreUnresolvedAmong branch seen others → Within pairs others
within_other branch seen pairs others are also p c = (also.listed p.0 p.1).1 ((are.listed p.0 p.1).0 c)

pub open_once : (branch : List Catch) (pairs others : List Pair) → AreUnresolvedIn branch pairs → AreUnresolvedIn branch others → pairs ≡ others
open_once branch pairs others are also =
    let same : also.0 ≡ are.0 = same_map key_total key_ties also.0 are.0 (λ key. seen_alike branch key (get also.0 key) (get are.0 key) (also.1 key) (are.1 key)) in
    let among = subst (λ seen. AreUnresolvedAmong branch seen others) same also.2 in
    ascending_once pairs others are.2.ascending among.ascending (within_other branch are.0 pairs others are.2 among) (within_other branch are.0 others pairs among are.2)

there_once : (o : Option (List Catch)) (pairs others : List Pair) → MatchOption o (pairs ≡ []) (λ branch. AreUnresolvedIn branch pairs) → MatchOption o (others ≡ []) (λ branch. AreUnresolvedIn branch others) → pairs ≡ others
there_once None pairs others none also = none ∙ sym also
there_once (Some branch) pairs others are also = open_once branch pairs others are also

-- so a call opens and resolves what is unresolved after it and not before, and before it and not after
pub changes_once : (state next : Contents) (name : List ℕ) (opened resolved before after : List Pair) → OpensAndResolves state next name opened resolved → AreUnresolvedAt state name before → AreUnresolvedAt next name after → (opened ≡ pairs_without before after) × (resolved ≡ pairs_without after before)
changes_once state next name opened resolved before after w were are =
    let first = there_once (catches_of state.branches name) w.before before w.were were in
    let second = there_once (catches_of next.branches name) w.after after w.are are in
    (w.opens ∙ (λ i. pairs_without (first i) (second i)), w.resolves ∙ (λ i. pairs_without (second i) (first i)))

-- what the question for them answers
abbrev Same : AnswerOf (List Pair) → AnswerOf (List Pair) → Type 0
Same one other = one ≡ other

listed_of : (o : Option (List Catch)) (name : List ℕ) (pairs : List Pair) → MatchOption o (Same (Ok pairs) (Err (NoBranch name))) (λ branch. (told : List Pair) × Same (Ok pairs) (Ok told) × AreUnresolvedIn branch told) → MatchOption o (pairs ≡ []) (λ branch. AreUnresolvedIn branch pairs)
listed_of None name pairs is = cc
listed_of (Some branch) name pairs is = subst (AreUnresolvedIn branch) (cc is.1) is.2

pub listed_there : (state : Contents) (name : List ℕ) (pairs : List Pair) → AreUnresolved state name (Ok pairs) → AreUnresolvedAt state name pairs
listed_there state name pairs are = listed_of (catches_of state.branches name) name pairs are

there_ascends : (o : Option (List Catch)) (pairs : List Pair) → MatchOption o (pairs ≡ []) (λ branch. AreUnresolvedIn branch pairs) → AllPairs IsBefore pairs
there_ascends None pairs none = subst (AllPairs IsBefore) (sym none) (λ i j d less within. absurd (omega arith))
there_ascends (Some branch) pairs are = are.2.ascending

pub ascend_there : (state : Contents) (name : List ℕ) (pairs : List Pair) → AreUnresolvedAt state name pairs → AllPairs IsBefore pairs
ascend_there state name pairs are = there_ascends (catches_of state.branches name) pairs are

-- ---- a search among ascending pairs

module _ (pairs : List Pair) (pair : Pair) (up : AllPairs IsBefore pairs) where
  sames_tie : same_names ≡ eq_by_cmp by_names
  sames_tie i p q = both_tied _ _ (by_name p.0 q.0) (by_name p.1 q.1) (texts_ties p.0 q.0) (texts_ties p.1 q.1) i

  among_by_test : is_pair_among pairs pair ≡ list_any (eq_by_cmp by_names pair) pairs
  among_by_test = ap (λ same. list_any (same pair) pairs) sames_tie

  later_greater : (p q : Pair) → by_names p q ≡ Less → is_lt (by_names q p) ≡ false
  later_greater p q less = ap is_lt (by_names_total.antisymm q p ∙ ap ordering_reverse less)

  sorted : IsSortedBy (λ a b. is_lt (by_names a b)) pairs
  sorted k d from within =
      later_greater (get_or pairs k d) (get_or pairs (k + 1) d) (less_by_before (get_or pairs k d) (get_or pairs (k + 1) d) (up k (k + 1) d (omega arith) within))

  at_place : (i : ℕ) → i < length pairs → by_names (get_or pairs i pair) pair ≡ Equal → is_pair_among pairs pair ≡ true
  at_place i within tied =
      let there = subst (Contains pairs) (pairs_tie (get_or pairs i pair) pair tied) (Contains-get_or pairs i pair within) in
      among_by_test ∙ list_any-from_Contains (eq_by_cmp_equiv by_names_total) pair pairs there

  itself : by_names pair pair ≡ Equal
  itself = tied_itself by_names_total pair

  nowhere : (i : ℕ) → ((k : ℕ) → k < i → by_names (get_or pairs k pair) pair ≡ Less) → ((k : ℕ) → i ≤ k → k < length pairs → by_names (get_or pairs k pair) pair ≡ Greater) → is_pair_among pairs pair ≡ false
  nowhere i less greater = false_from_ne_true (is_pair_among pairs pair) (λ e. not_there (Contains-from_any (tells_apart pairs_tie) pair pairs (sym among_by_test ∙ e)))
    where
      not_there : Contains pairs pair → ⊥
      not_there (k, within, is) = elim (cases_lt k i) [
        | inl before ↦
            let e = subst (λ p. by_names p pair ≡ Less) is (less k before) in
            let f = itself in
            cc
        | inr behind ↦
            let e = subst (λ p. by_names p pair ≡ Greater) is (greater k behind within) in
            let f = itself in
            cc
      ]

  pub found_among : (r : Result ℕ ℕ) → IsSearchInRange r (length pairs) → IsBinarySearchResult (λ other. by_names other pair) pairs r → is_ok r ≡ is_pair_among pairs pair
  found_among (Ok i) within is = sym (at_place i within (is pair))
  found_among (Err i) within parted =
      let around = parted (searchable_from_sorted by_names_total (λ (p : Pair). p) pairs pair sorted) in
      sym (nowhere i (λ k less. around.0 k pair (omega arith) less) (λ k more less. around.1 k pair more less))
