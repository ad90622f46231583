-- Commuting and arranging a list of catches gives exactly one result: the catches, or the place where they are
-- blocked.
use Rattle.camp_catch.proofs.Words.{Contains, List, [], ap, inl, inr, refl, ℕ, ◌++◌, ◌↔◌, ◌∷◌, ◌⊎◌, Key, among_or_not, keys_or_not, bytes_or_not, Align, AlignIsBlocked, ArrangesAfter, CatchCommutesBeforeAll, CatchMovesToFront, IsBlockedAfter, IsBlockedByKey, catch_key, ArrangeByMembers, CatchesAreDecided, HasPair, ListsAreUnique, ListsSucceedOrAreBlocked, OneOf, MergeLists, MergeIsBlocked, MergesWithAll, IsBlockedWithin, Catch}
use Rattle.camp_catch.proofs.CommuteCases.{IsDetermined, commuting}
use Rattle.camp_catch.proofs.Determined.{Determined, chain, either, just, made_of, not_or_not, one_pair, where_holds}
use Rattle.camp_catch.proofs.MergeCases.{merging}
use Rattle.camp_catch.proofs.Settled.{Settled, at_once, both_at_once, beside, by_cases, next, settled_as, settles}

-- the two results of a commute past a list, or the labels where it is blocked
pub coming : (list : List Catch) (k : Catch) → Settled (λ (p : Catch × List Catch). CatchCommutesBeforeAll list k p.0 p.1) (IsBlockedByKey list k)
coming [] k = both_at_once k []
coming (j ∷ list) k =
    settled_as (next (coming list k) (λ p w. settles (commuting j p.0) (catch_key j))) (λ x. (x.1.0, x.1.1 ∷ x.0.1)) (λ x w. (x.0.0, x.1.1, x.0.1, w.0, w.1, refl)) (λ y c. (((c.0, c.2), (y.0, c.1)), (c.3, c.4), λ t. (y.0, c.5 t))) (λ on v. elim v [
      | inl s ↦ inl s
      | inr s ↦ let none = s.2 in inr (s.0.0, s.0.1, s.1, (λ k' j' w. none.0 (k', j') w), none.1)
    ]) (λ on v. elim v [
      | inl s ↦ inl s
      | inr s ↦ inr ((s.0, s.1), s.2, ((λ x w. s.3 x.0 x.1 w), s.4))
    ])

arranging : (names : List (List ℕ)) (rest list : List Catch) → Settled (λ (p : List Catch × List Catch). ArrangesAfter names rest list p.0 p.1) (λ (s : Key × Key). IsBlockedAfter names rest list s.0 s.1)
arranging names rest [] = both_at_once [] rest
arranging names rest (k ∷ list) =
    let come = settled_as (next (beside (catch_key k) (coming rest k)) (λ p w. arranging names p.1 list)) (λ x. (x.0.0 ∷ x.1.0, x.1.1)) (λ x w. (x.0.0, x.0.1, x.1.0, w.0, w.1, refl)) (λ y c. (((c.0, c.1), (c.2, y.1)), (c.3, c.4), λ t. (c.5 t, y.1))) (λ on v. v) (λ on v. v) in
    settled_as (by_cases (among_or_not bytes_or_not names (catch_key k).name) come (arranging names (rest ++ k ∷ []) list)) (λ x. x) (λ x w. w) (λ y w. (y, w, refl)) (λ s v. elim v [
      | inl w ↦ elim w.1 [ inl u ↦ inl (w.0, u.0, u.1) | inr u ↦ inr (inl (w.0, (u.0.0, u.0.1, u.1, u.2))) ]
      | inr w ↦ inr (inr w)
    ]) (λ s v. elim v [
      | inl w ↦ inl (w.0, inl (w.1, w.2))
      | inr u ↦ elim u [ inl w ↦ let come = w.1 in inl (w.0, inr ((come.0, come.1), come.2, come.3)) | inr w ↦ inr w ]
    ])

pub first_of : (key : Key) (list : List Catch) → Determined (λ (p : Catch × List Catch). CatchMovesToFront key list p.0 p.1)
first_of key [] = record { one = λ x y v w. absurd v; decided = inr (λ w. w.1) }
first_of key (j ∷ list) =
    let is = keys_or_not (catch_key j) key in
    let here = where_holds is (λ same. just (j, list)) in
    let there = where_holds (not_or_not is) (λ other. chain (first_of key list) (λ p w. commuting j p.0)) in
    either (λ x y v w. w.0 v.0) (made_of here (λ x. x) (λ x w. (w.0, ap (λ (p : Catch × List Catch). p.0) w.1, ap (λ (p : Catch × List Catch). p.1) w.1)) (λ y w. (y, (w.0, λ t. (w.1 t, w.2 t)), refl))) (made_of there (λ x. (x.1.0, x.1.1 ∷ x.0.1)) (λ x w. let come = w.1 in (w.0, (x.0.0, x.1.1, x.0.1, come.0, come.1, refl))) (λ y w. let c = w.1 in (((c.0, c.2), (y.0, c.1)), (w.0, (c.3, c.4)), λ t. (y.0, c.5 t))))

aligning : (order : List Key) (list : List Catch) → Settled (Align order list) (AlignIsBlocked order list)
aligning [] list = at_once list
aligning (key ∷ order) list =
    settled_as (next (settles (first_of key list) key) (λ p w. aligning order p.1)) (λ x. x.0.0 ∷ x.1) (λ x w. (x.0.0, x.0.1, x.1, w.0, w.1, refl)) (λ y c. (((c.0, c.1), c.2), (c.3, c.4), c.5)) (λ on v. elim v [
      | inl s ↦ inl ((λ k others w. s.0 (k, others) w), s.1)
      | inr s ↦ inr (s.0.0, s.0.1, s.1, s.2)
    ]) (λ on v. elim v [
      | inl s ↦ inl ((λ x w. s.0 x.0 x.1 w), s.1)
      | inr s ↦ inr ((s.0, s.1), s.2, s.3)
    ])

merging_with_all : (q : List Catch) (k : Catch) → Settled (λ (p : Catch × List Catch). MergesWithAll q k p.0 p.1) (λ (s : Key × Key). IsBlockedWithin q k s.0 s.1)
merging_with_all [] k = both_at_once k []
merging_with_all (j ∷ q) k =
    settled_as (next (settles (merging j k) (catch_key j, catch_key k)) (λ p w. merging_with_all q p.0)) (λ x. (x.1.0, x.0.1 ∷ x.1.1)) (λ x w. (x.0.0, x.0.1, x.1.1, w.0, w.1, refl)) (λ y c. (((c.0, c.1), (y.0, c.2)), (c.3, c.4), λ t. (y.0, c.5 t))) (λ s v. elim v [
      | inl w ↦ inl ((λ k' j' m. w.0 (k', j') m), ap (λ (p : Key × Key). p.0) w.1, ap (λ (p : Key × Key). p.1) w.1)
      | inr w ↦ inr (w.0.0, w.0.1, w.1, w.2)
    ]) (λ s v. elim v [
      | inl w ↦ inl ((λ x m. w.0 x.0 x.1 m), λ t. (w.1 t, w.2 t))
      | inr w ↦ inr ((w.0, w.1), w.2, w.3)
    ])

merging_lists : (p q : List Catch) → Settled (λ (r : List Catch × List Catch). MergeLists p q r.0 r.1) (λ (s : Key × Key). MergeIsBlocked p q s.0 s.1)
merging_lists [] q = both_at_once [] q
merging_lists (k ∷ p) q =
    settled_as (next (merging_with_all q k) (λ r w. merging_lists p r.1)) (λ x. (x.0.0 ∷ x.1.0, x.1.1)) (λ x w. (x.0.0, x.0.1, x.1.0, w.0, w.1, refl)) (λ y c. (((c.0, c.1), (c.2, y.1)), (c.3, c.4), λ t. (c.5 t, y.1))) (λ s v. elim v [ inl w ↦ inl w | inr w ↦ inr (w.0.0, w.0.1, w.1, w.2) ]) (λ s v. elim v [ inl w ↦ inl w | inr w ↦ inr ((w.0, w.1), w.2, w.3) ])

pub lists_are_unique : ListsAreUnique
lists_are_unique = record {
  comes_before = λ list k. one_pair (CatchCommutesBeforeAll list k) (coming list k).one;
  stops_at = λ list k. (coming list k).one_stick;
  arranged = λ names list. one_pair (ArrangesAfter names [] list) (arranging names [] list).one;
  arrange_sticks = λ names list. one_pair (IsBlockedAfter names [] list) (arranging names [] list).one_stick;
  comes_first = λ key list. one_pair (CatchMovesToFront key list) (first_of key list).one;
  aligned = λ order list. (aligning order list).one;
  align_sticks = λ order list. (aligning order list).one_stick;
  merged_with_all = λ q k. one_pair (MergesWithAll q k) (merging_with_all q k).one;
  sticks_within = λ q k. one_pair (IsBlockedWithin q k) (merging_with_all q k).one_stick;
  merged = λ p q. one_pair (MergeLists p q) (merging_lists p q).one;
  merge_sticks = λ p q. one_pair (MergeIsBlocked p q) (merging_lists p q).one_stick;
}

pair_or_none : {Case : Catch → Catch → Type 0} → IsDetermined Case → HasPair Case ⊎ ((k' j' : Catch) → ¬ (Case k' j'))
pair_or_none determined = elim determined.decided [
  | inl w ↦ inl (w.0.0, w.0.1, w.1)
  | inr never ↦ inr (λ k' j' w. never ((k', j'), w))
]

pub are_decided : CatchesAreDecided
are_decided = record { commute = λ j k. pair_or_none (commuting j k); merge = λ j k. pair_or_none (merging j k) }

one_of : {X Y Z W : Type 0} {Done : X → Y → Type 0} {Sticks : Z → W → Type 0} → Settled (λ (p : X × Y). Done p.0 p.1) (λ (s : Z × W). Sticks s.0 s.1) → OneOf (HasPair Done) (HasPair Sticks)
one_of d = (elim d.either [ inl w ↦ inl (w.0.0, w.0.1, w.1) | inr w ↦ inr (w.0.0, w.0.1, w.1) ], λ v w. d.apart (v.0, v.1) (w.0, w.1) v.2 w.2)

pub lists_succeed_or_are_blocked : ListsSucceedOrAreBlocked
lists_succeed_or_are_blocked = record {
  comes_before = λ list k.
      let d = coming list k in
      (elim d.either [ inl w ↦ inl (w.0.0, w.0.1, w.1) | inr w ↦ inr w ], λ v w. d.apart (v.0, v.1) w.0 v.2 w.1);
  arranges = λ names list. one_of (arranging names [] list);
  aligns = λ order list. let d = aligning order list in (d.either, λ v w. d.apart v.0 w.0 v.1 w.1);
  merges_with_all = λ q k. one_of (merging_with_all q k);
  merges = λ p q. one_of (merging_lists p q);
}

-- two lists of names have the same names
abbrev HaveSameNames : List (List ℕ) → List (List ℕ) → Type 0
HaveSameNames names others = (name : List ℕ) → Contains names name ↔ Contains others name

arranged_alike : (names others : List (List ℕ)) → HaveSameNames names others → (rest list first t : List Catch) → ArrangesAfter names rest list first t → ArrangesAfter others rest list first t
arranged_alike names others same rest [] first t w = w
arranged_alike names others same rest (k ∷ list) first t (inl w) =
    let come = w.1 in
    inl ((same _).0 w.0, (come.0, come.1, come.2, come.3, arranged_alike names others same come.1 list come.2 t come.4, come.5))
arranged_alike names others same rest (k ∷ list) first t (inr w) =
    inr (λ is. w.0 ((same _).1 is), arranged_alike names others same (rest ++ k ∷ []) list first t w.1)

stuck_alike : (names others : List (List ℕ)) → HaveSameNames names others → (rest list : List Catch) (patch on : Key) → IsBlockedAfter names rest list patch on → IsBlockedAfter others rest list patch on
stuck_alike names others same rest [] patch on w = w
stuck_alike names others same rest (k ∷ list) patch on (inl w) = inl ((same _).0 w.0, w.1, w.2)
stuck_alike names others same rest (k ∷ list) patch on (inr (inl w)) =
    let come = w.1 in
    inr (inl ((same _).0 w.0, (come.0, come.1, come.2, stuck_alike names others same come.1 list patch on come.3)))
stuck_alike names others same rest (k ∷ list) patch on (inr (inr w)) =
    inr (inr (λ is. w.0 ((same _).1 is), stuck_alike names others same (rest ++ k ∷ []) list patch on w.1))

pub arrange_by_members : ArrangeByMembers
arrange_by_members = record { arranged = λ names others same list first rest w. arranged_alike names others same [] list first rest w; sticks = λ names others same list patch on w. stuck_alike names others same [] list patch on w }
