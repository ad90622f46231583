-- Pairs of names in ascending order.
use Rattle.camp_branch.proofs.Words.{◌≡◌, ◌⊎◌, ℕ, zero, suc, Bool, ◌&&◌, List, [], ◌∷◌, map, get_or, T, is_some, bytes_eq, refl, sym, ap, ◌∙◌, subst, inl, inr, arith, Contains-from_any, list_any-from_Contains, tells_apart, Contains, AllPairs, dedup, list_any, nat_cmp, ordering_then, eq_by_cmp, IsTotalOrder, both_tied, tied_itself, eq_by_cmp_equiv, on_total, then_total, slice_cmp, nat_list_cmp_total, texts_ties, FinMap, IsAntisymmetric, contains_key-keys, entries, entries_sorted, from_entries, get-from_entries, keys, nat_cmp-IsAntisymmetric, slice_cmp-IsAntisymmetric, Ordering, Less, Equal, Greater, IsBefore, All, All-nil, All-cons}
use Rattle.std.proofs.lemmas.List.Kept.{AllPairs-cons, Contains-dedup, Contains-from_dedup, IsStrictlySortedBy-dedup}
use Rattle.std.proofs.lemmas.List.Sorted.{Contains-permutation, IsPermutation-sym}
use Rattle.std.proofs.lemmas.Map.Keys.{Less-from_sorted}
use Rattle.std.specs.List.Sorted.{IsPermutation, IsSorted}
use Rattle.std.specs.FinMap.Entries.{below_all, is_sorted, is_some-find}
use Rattle.camp_share.proofs.Entries.{first, second, is_less}

-- a pair of names
abbrev pub Pair : Type 0
Pair = List ℕ × List ℕ

-- the order of names
abbrev pub by_name : List ℕ → List ℕ → Ordering
by_name = slice_cmp nat_cmp

-- the order of pairs of names
abbrev pub by_names : Pair → Pair → Ordering
by_names p q = ordering_then (by_name p.0 q.0) (by_name p.1 q.1)

pub names_tie : IsAntisymmetric by_name
names_tie = slice_cmp-IsAntisymmetric nat_cmp-IsAntisymmetric

pub by_names_total : IsTotalOrder by_names
by_names_total = then_total (on_total (λ (p : Pair). p.0) nat_list_cmp_total) (on_total (λ (p : Pair). p.1) nat_list_cmp_total)

then_less : (p q : Pair) (o : Ordering) → by_name p.0 q.0 ≡ o → ordering_then o (by_name p.1 q.1) ≡ Less → IsBefore p q
then_less p q Less e is = inl e
then_less p q Equal e is = inr (names_tie p.0 q.0 e, is)
then_less p q Greater e is = cc

pub before_by_less : (p q : Pair) → by_names p q ≡ Less → IsBefore p q
before_by_less p q is = then_less p q (by_name p.0 q.0) refl is

pub less_by_before : (p q : Pair) → IsBefore p q → by_names p q ≡ Less
less_by_before p q (inl e) = ap (λ o. ordering_then o (by_name p.1 q.1)) e
less_by_before p q (inr w) =
    ap (λ o. ordering_then o (by_name p.1 q.1)) (ap (λ n. by_name n q.0) w.0 ∙ tied_itself nat_list_cmp_total q.0) ∙ w.1

then_tied : (p q : Pair) (o : Ordering) → by_name p.0 q.0 ≡ o → ordering_then o (by_name p.1 q.1) ≡ Equal → p ≡ q
then_tied p q Less e is = cc
then_tied p q Equal e is = λ i. (names_tie p.0 q.0 e i, names_tie p.1 q.1 is i)
then_tied p q Greater e is = cc

pub pairs_tie : IsAntisymmetric by_names
pairs_tie p q is = then_tied p q (by_name p.0 q.0) refl is

-- no pair is before itself, and no two are each before the other
not_both : (p q : Pair) → IsBefore p q → IsBefore q p → ⊥
not_both p q before after =
    let e : by_names p p ≡ Less = by_names_total.trans p q p (less_by_before p q before) (less_by_before q p after) in
    let f : by_names p p ≡ Equal = tied_itself by_names_total p in
    cc

later : (p : Pair) (pairs : List Pair) (q : Pair) → AllPairs IsBefore (p ∷ pairs) → Contains pairs q → IsBefore p q
later p pairs q up (k, within, is) = subst (IsBefore p) is (up 0 (suc k) q (omega arith) (omega arith))

rest_ascends : (p : Pair) (pairs : List Pair) → AllPairs IsBefore (p ∷ pairs) → AllPairs IsBefore pairs
rest_ascends p pairs up i j d lt within = up (suc i) (suc j) d (omega arith) (omega arith)

pub has_first : {X : Type 0} (x : X) (list : List X) → Contains (x ∷ list) x
has_first x list = (0, omega arith, refl)

pub has_later : {X : Type 0} (x y : X) (list : List X) → Contains list y → Contains (x ∷ list) y
has_later x y list (k, within, is) = (suc k, omega arith, is)

pub first_or_later : {X : Type 0} (x y : X) (list : List X) → Contains (x ∷ list) y → (x ≡ y) ⊎ Contains list y
first_or_later x y list (zero, within, is) = inl is
first_or_later x y list (suc i, within, is) = inr (i, omega arith, is)

-- each of these pairs is one of those
abbrev pub Within : List Pair → List Pair → Type 0
Within pairs others = (p : Pair) → Contains pairs p → Contains others p

heads_same : (p q : Pair) (s t : List Pair) → AllPairs IsBefore (p ∷ s) → AllPairs IsBefore (q ∷ t) → (p ≡ q) ⊎ Contains s q → (q ≡ p) ⊎ Contains t p → p ≡ q
heads_same p q s t up up' (inl e) w = e
heads_same p q s t up up' (inr c) (inl e) = sym e
heads_same p q s t up up' (inr c) (inr d) = absurd (not_both p q (later p s q up c) (later q t p up' d))

rests_within : (p q : Pair) (s t : List Pair) → p ≡ q → AllPairs IsBefore (p ∷ s) → Within (p ∷ s) (q ∷ t) → Within s t
rests_within p q s t same up within x c = elim (first_or_later q x t (within x (has_later p x s c))) [
  | inl e ↦
      let before = later p s x up c in
      let before' : IsBefore x x = subst (λ y. IsBefore y x) (same ∙ e) before in
      absurd (not_both x x before' before')
  | inr d ↦ d
]

pub no_member : {A : Type 0} {X : Type 0} (x : X) → Contains [] x → A
no_member x (k, within, is) = absurd (omega arith)

-- pairs in ascending order are determined by which they are
pub ascending_once : (s t : List Pair) → AllPairs IsBefore s → AllPairs IsBefore t → Within s t → Within t s → s ≡ t
ascending_once [] [] up up' f g = refl
ascending_once [] (q ∷ t) up up' f g = no_member q (g q (has_first q t))
ascending_once (p ∷ s) [] up up' f g = no_member p (f p (has_first p s))
ascending_once (p ∷ s) (q ∷ t) up up' f g =
    let same = heads_same p q s t up up' (first_or_later p q s (g q (has_first q t))) (first_or_later q p t (f p (has_first p s))) in
    let rests = ascending_once s t (rest_ascends p s up) (rest_ascends q t up') (rests_within p q s t same up f) (rests_within q p t s (sym same) up' g) in
    λ i. same i ∷ rests i

-- a key of sorted entries is less than the keys after it
below_later : {X : Type 0} (p : Pair) (list : List (Pair × X)) → T (below_all by_names p list) → All (IsBefore p) (map (λ e. e.0) list)
below_later p [] below = All-nil (IsBefore p)
below_later p (e ∷ list) below =
    All-cons (IsBefore p) e.0 (map (λ e. e.0) list) (before_by_less p e.0 (is_less _ (first _ _ below))) (below_later p list (second _ _ below))

keys_ascend : {X : Type 0} (list : List (Pair × X)) → T (is_sorted by_names list) → AllPairs IsBefore (map (λ e. e.0) list)
keys_ascend [] sorted = λ i j d lt within. absurd (omega arith)
keys_ascend (e ∷ list) sorted =
    AllPairs-cons IsBefore e.0 (map (λ e. e.0) list) (below_later e.0 list (first _ _ sorted)) (keys_ascend list (second _ _ sorted))

-- the set of some pairs
abbrev set_of : List Pair → FinMap by_names (Unit {0})
set_of pairs = from_entries (map (λ p. (p, tt)) pairs)

firsts : (pairs : List Pair) → map (λ (e : Pair × Unit {0}). e.0) (map (λ p. (p, tt)) pairs) ≡ pairs
firsts [] = refl
firsts (p ∷ pairs) = ap (λ t. p ∷ t) (firsts pairs)

among_keys : (pairs : List Pair) (p : Pair) → list_any (eq_by_cmp by_names p) (keys (set_of pairs)) ≡ list_any (eq_by_cmp by_names p) pairs
among_keys pairs p =
    sym (contains_key-keys (set_of pairs) p) ∙ ap is_some (get-from_entries by_names_total _ p) ∙ is_some-find by_names p _ ∙ ap (list_any (eq_by_cmp by_names p)) (firsts pairs)

has_by_test : (s t : List Pair) → ((p : Pair) → list_any (eq_by_cmp by_names p) s ≡ list_any (eq_by_cmp by_names p) t) → Within s t
has_by_test s t same p c =
    Contains-from_any (tells_apart pairs_tie) p t (sym (same p) ∙ list_any-from_Contains (eq_by_cmp_equiv by_names_total) p s c)

-- a list has these pairs, each once, in ascending order
pub record IsInOrder (pairs list : List Pair) : Type 0 where
  pub ascending : AllPairs IsBefore list
  pub has : Within pairs list
  pub has_no_other : Within list pairs

pub in_order : (pairs : List Pair) → (list : List Pair) × IsInOrder pairs list
in_order pairs = (
  keys (set_of pairs),
  record {
    ascending = keys_ascend (entries (set_of pairs)) (entries_sorted (set_of pairs));
    has = has_by_test pairs _ (λ p. sym (among_keys pairs p));
    has_no_other = has_by_test _ pairs (among_keys pairs);
  },
)

-- pairs are compared name by name
abbrev pub same_names : Pair → Pair → Bool
same_names p q = bytes_eq p.0 q.0 && bytes_eq p.1 q.1

sames_tie : same_names ≡ eq_by_cmp by_names
sames_tie i p q =
    both_tied _ _ (by_name p.0 q.0) (by_name p.1 q.1) (texts_ties p.0 q.0) (texts_ties p.1 q.1) i

-- sorted pairs without duplicates
pub sorted_once : (pairs sorted list : List Pair) → IsPermutation pairs sorted → IsSorted by_names sorted → list ≡ dedup same_names sorted → IsInOrder pairs list
sorted_once pairs sorted list moved up is =
    let test = eq_by_cmp by_names in
    let rises = IsStrictlySortedBy-dedup by_names_total (λ p q. refl) sorted up in
    subst (IsInOrder pairs) (sym (is ∙ ap (λ same. dedup same sorted) sames_tie)) (record {
      ascending = λ i j d lt within. before_by_less (get_or (dedup test sorted) i d) (get_or (dedup test sorted) j d) (Less-from_sorted by_names (dedup test sorted) i j d rises lt within);
      has = λ p c. Contains-dedup (eq_by_cmp_equiv by_names_total) (tells_apart pairs_tie) sorted p (Contains-permutation pairs sorted p moved c);
      has_no_other = λ p c. Contains-permutation sorted pairs p (IsPermutation-sym pairs sorted moved) (Contains-from_dedup test sorted p c);
    })
