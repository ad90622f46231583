-- Finds a key chunk by chunk.
use Rattle.camp_share.proofs.Words.{◌≡◌, ℕ, zero, suc, ◌+◌, ◌<◌, ◌≤◌, T, List, [], ◌∷◌, ◌++◌, length, get_or, false, append-nil, ap, subst, ◌∙◌, Ok, Err, Result, IfOk, IfErr, arith, Ordering, Less, Equal, Greater, ordering_index, ordering_reverse, is_lt, IsTotalOrder, IsAntisymmetric, is_sorted, below_all, IsAt, WouldBeAt, IsAbove}
use Rattle.std.specs.List.Sorted.{IsSearchInRange, IsBinarySearchResult, IsNonDecreasingBy}
use Rattle.std.proofs.lemmas.List.Sorted.{searchable_from_sorted}
use Rattle.camp_share.proofs.Entries.{first, second, both, is_less, above}

module _ {K X : Type 0} (R : K → K → Ordering) where
  below_left : (k : K) (xs ys : List (K × X)) → T (below_all R k (xs ++ ys)) → T (below_all R k xs)
  below_left k [] ys h = tt
  below_left k (x ∷ xs) ys h = both _ _ (first _ _ h) (below_left k xs ys (second _ _ h))

  pub sorted_left : (xs ys : List (K × X)) → T (is_sorted R (xs ++ ys)) → T (is_sorted R xs)
  sorted_left [] ys h = tt
  sorted_left (x ∷ xs) ys h = both _ _ (below_left x.0 xs ys (first _ _ h)) (sorted_left xs ys (second _ _ h))

  pub sorted_right : (xs ys : List (K × X)) → T (is_sorted R (xs ++ ys)) → T (is_sorted R ys)
  sorted_right [] ys h = h
  sorted_right (x ∷ xs) ys h = sorted_right xs ys (second _ _ h)

  below_next : (k : K) (xs ys : List (K × X)) (y : K × X) → T (below_all R k (xs ++ y ∷ ys)) → R k y.0 ≡ Less
  below_next k [] ys y h = is_less _ (first _ _ h)
  below_next k (x ∷ xs) ys y h = below_next k xs ys y (second _ _ h)

  -- a key above the last entries of a sorted list is above all of them
  pub above_behind : IsTotalOrder R → (k : K) (xs ys : List (K × X)) → 0 < length ys → T (is_sorted R (xs ++ ys)) → IsAbove R ys k → IsAbove R (xs ++ ys) k
  above_behind o k xs [] some h all = absurd (omega arith)
  above_behind o k [] (y ∷ ys) some h all = all
  above_behind o k (x ∷ xs) (y ∷ ys) some h all = (o.trans x.0 y.0 k (below_next x.0 xs ys y (first _ _ h)) all.0, above_behind o k xs (y ∷ ys) some (second _ _ h) all)

  -- a key above two lists of entries is above the joined list
  pub above_both : (k : K) (xs ys : List (K × X)) → IsAbove R xs k → IsAbove R ys k → IsAbove R (xs ++ ys) k
  above_both k [] ys h all = all
  above_both k (x ∷ xs) ys h all = (h.0, above_both k xs ys h.1 all)

  pub above_split : (k : K) (xs ys : List (K × X)) → IsAbove R (xs ++ ys) k → IsAbove R xs k × IsAbove R ys k
  above_split k [] ys all = (tt, all)
  above_split k (x ∷ xs) ys all = let rest = above_split k xs ys all.1 in ((all.0, rest.0), rest.1)

  pub would_behind : (k : K) (xs ys : List (K × X)) (i n : ℕ) → n ≡ length xs + i → IsAbove R xs k → WouldBeAt R ys k i → WouldBeAt R (xs ++ ys) k n
  would_behind k [] ys i n e h w = subst (WouldBeAt R ys k) {x = i} {y = n} (omega arith) w
  would_behind k (x ∷ xs) ys i zero e h w = absurd (omega arith)
  would_behind k (x ∷ xs) ys i (suc n) e h w = (h.0, would_behind k xs ys i n (omega arith) h.1 w)

  pub above_would : (k : K) (xs : List (K × X)) (n : ℕ) → n ≡ length xs → IsAbove R xs k → WouldBeAt R xs k n
  above_would k xs n e h = subst (λ ys. WouldBeAt R ys k n) (append-nil xs) (would_behind k xs [] 0 n (omega arith) h tt)

  pub would_front : (k : K) (xs ys : List (K × X)) (i : ℕ) → ¬ (IsAbove R xs k) → WouldBeAt R xs k i → WouldBeAt R (xs ++ ys) k i
  would_front k [] ys i reached w = absurd (reached tt)
  would_front k (x ∷ xs) ys zero reached w = w
  would_front k (x ∷ xs) ys (suc i) reached w = (w.0, would_front k xs ys i (λ all. reached (w.0, all)) w.1)

module _ {K X : Type 0} where
  pub at_behind : (k : K) (xs ys : List (K × X)) (i n : ℕ) → n ≡ length xs + i → IsAt ys k i → IsAt (xs ++ ys) k n
  at_behind k [] ys i n e h = subst (IsAt ys k) {x = i} {y = n} (omega arith) h
  at_behind k (x ∷ xs) ys i zero e h = absurd (omega arith)
  at_behind k (x ∷ xs) ys i (suc n) e h = at_behind k xs ys i n (omega arith) h

  pub at_front : (k : K) (xs ys : List (K × X)) (i : ℕ) → IsAt xs k i → IsAt (xs ++ ys) k i
  at_front k [] ys i h = absurd h
  at_front k (x ∷ xs) ys zero h = h
  at_front k (x ∷ xs) ys (suc i) h = at_front k xs ys i h

module _ {K X : Type 0} (R : K → K → Ordering) (o : IsTotalOrder R) (same : IsAntisymmetric R) where
  -- each key is less than the next
  neighbours : (es : List (K × X)) → T (is_sorted R es) → (k : ℕ) (d : K × X) → suc k < length es → R (get_or es k d).0 (get_or es (suc k) d).0 ≡ Less
  neighbours [] sorted k d within = absurd (omega arith)
  neighbours (e ∷ []) sorted k d within = absurd (omega arith)
  neighbours (e ∷ f ∷ es) sorted zero d within = is_less _ (first _ _ (first _ _ sorted))
  neighbours (e ∷ f ∷ es) sorted (suc k) d within = neighbours (f ∷ es) (second _ _ sorted) k d (omega arith)

  comparisons_rise : (es : List (K × X)) → T (is_sorted R es) → (key : K) → IsNonDecreasingBy (λ e. ordering_index (R e.0 key)) es
  comparisons_rise es sorted key =
      searchable_from_sorted o (λ e. e.0) es key
      (λ k d low within. subst (λ j. is_lt (R (get_or es j d).0 (get_or es k d).0) ≡ false) {x = suc k} (omega arith)
      (ap is_lt (above R o (get_or es k d).0 (get_or es (suc k) d).0 (neighbours es sorted k d (omega arith)))))

  at_equal : (es : List (K × X)) (key : K) (i : ℕ) → i < length es → ((d : K × X) → R (get_or es i d).0 key ≡ Equal) → IsAt es key i
  at_equal [] key i within equal = absurd (omega arith)
  at_equal (e ∷ es) key zero within equal = same _ _ (equal e)
  at_equal (e ∷ es) key (suc i) within equal = at_equal es key i (omega arith) equal

  between : (es : List (K × X)) (key : K) (i : ℕ) → i ≤ length es → ((j : ℕ) (d : K × X) → j < i → R (get_or es j d).0 key ≡ Less) → ((d : K × X) → i < length es → R (get_or es i d).0 key ≡ Greater) → WouldBeAt R es key i
  between [] key zero within low high = tt
  between [] key (suc i) within low high = absurd (omega arith)
  between (e ∷ es) key zero within low high = o.antisymm key e.0 ∙ ap ordering_reverse (high e (omega arith))
  between (e ∷ es) key (suc i) within low high = (low 0 e (omega arith), between es key i (omega arith) (λ j d l. low (suc j) d (omega arith)) (λ d l. high d (omega arith)))

  -- the result of a binary search among sorted entries
  pub searched : (es : List (K × X)) → T (is_sorted R es) → (key : K) (r : Result ℕ ℕ) → IsSearchInRange r (length es) → IsBinarySearchResult (λ e. R e.0 key) es r → IfOk r (IsAt es key) × IfErr r (WouldBeAt R es key)
  searched es sorted key (Ok i) bound equal = (at_equal es key i bound equal, tt)
  searched es sorted key (Err i) bound parts =
      let at = parts (comparisons_rise es sorted key) in
      (tt, between es key i bound (λ j d l. at.0 j d (omega arith) l) (λ d l. at.1 i d (omega arith) l))
