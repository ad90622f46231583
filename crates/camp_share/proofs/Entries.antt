-- What edits of a sorted list of entries do to the finite map that the list represents.
use Rattle.camp_share.proofs.Words.{◌≡◌, ℕ, zero, suc, Bool, true, false, cond, not, ◌&&◌, T, List, [], ◌∷◌, get_or, set, sym, ◌<◌, ◌≤◌, arith, ap, subst, ◌∙◌, refl, length, None, Some, insert, remove, Ordering, is_lt, is_eq, eq_by_cmp, ordering_reverse, Less, Equal, Greater, IsTotalOrder, tied_itself, tied_back, alike_right, eq_by_cmp_equiv, from_sorted}
use Rattle.camp_share.proofs.Words.{IsAntisymmetric, same_map, same_entries_map, entries-from_sorted, entries-insert, get-from_sorted, get-remove, get_tied, len-entries, empty_of_len, find, put, is_sorted, below_all, where_key, is_sorted-put, is_sorted-where_key, find-where_key, IsAt, WouldBeAt}
use Rattle.std.specs.FinMap as map

pub first : (a b : Bool) → T (a && b) → T a
first true b h = tt
first false b h = h

pub second : (a b : Bool) → T (a && b) → T b
second true b h = h
second false b h = absurd h

pub both : (a b : Bool) → T a → T b → T (a && b)
both true b p q = q
both false b p q = p

pub is_less : (r : Ordering) → T (is_lt r) → r ≡ Less
is_less Less h = refl
is_less Equal h = absurd h
is_less Greater h = absurd h

pub is_equal : (r : Ordering) → T (is_eq r) → r ≡ Equal
is_equal Less h = absurd h
is_equal Equal h = refl
is_equal Greater h = absurd h

turned : {A : Type 0} (b : Bool) (x y : A) → cond (not b) x y ≡ cond b y x
turned true x y = refl
turned false x y = refl

pub at_within : {K X : Type 0} (es : List (K × X)) (k : K) (i : ℕ) → IsAt es k i → i < length es
at_within [] k i h = absurd h
at_within (e ∷ es) k zero h = omega arith
at_within (e ∷ es) k (suc i) h = let l = at_within es k i h in omega arith

pub would_be_within : {K X : Type 0} (R : K → K → Ordering) (es : List (K × X)) (k : K) (i : ℕ) → WouldBeAt R es k i → i ≤ length es
would_be_within R [] k zero h = omega arith
would_be_within R [] k (suc i) h = absurd h
would_be_within R (e ∷ es) k zero h = omega arith
would_be_within R (e ∷ es) k (suc i) h = let l = would_be_within R es k i h.1 in omega arith

module _ {K : Type 0} (R : K → K → Ordering) (o : IsTotalOrder R) where
  -- an order is antisymmetric: less one way is greater the other way
  pub above : (x y : K) → R x y ≡ Less → R y x ≡ Greater
  above x y h = o.antisymm y x ∙ ap ordering_reverse h

  ties : (x y : K) → x ≡ y → R y x ≡ Equal
  ties x y h = subst (λ z. R z x ≡ Equal) h (tied_itself o x)

  -- the test that is true for all keys but one
  abbrev others : K → K → Bool
  others k x = not (eq_by_cmp R k x)

  module _ {X : Type 0} where
    -- an entry inserted at its position
    pub insert_is_put : (es : List (K × X)) (k : K) (v : X) (i : ℕ) → WouldBeAt R es k i → insert es i (k, v) ≡ put R k v es
    insert_is_put [] k v zero h = refl
    insert_is_put [] k v (suc i) h = absurd h
    insert_is_put (e ∷ es) k v zero h = rw h refl
    insert_is_put (e ∷ es) k v (suc i) h = rw (above e.0 k h.0, insert_is_put es k v i h.1) refl

    -- a key below the first of a sorted list is not in it
    pub missing : (k l : K) (es : List (K × X)) → R k l ≡ Less → T (below_all R l es) → find R k es ≡ None
    missing k l [] h below = refl
    missing k l (e ∷ es) h below =
        let less : R k e.0 ≡ Less = o.trans k l e.0 h (is_less _ (first _ _ below)) in
        rw less (missing k l es h (second _ _ below))

    pub absent : (es : List (K × X)) (k : K) (i : ℕ) → WouldBeAt R es k i → T (is_sorted R es) → find R k es ≡ None
    absent [] k i h sorted = refl
    absent (e ∷ es) k zero h sorted = rw h (missing k e.0 es h (first _ _ sorted))
    absent (e ∷ es) k (suc i) h sorted = rw (above e.0 k h.0) (absent es k i h.1 (second _ _ sorted))

    -- a later key is greater
    below_at : (l k : K) (es : List (K × X)) (i : ℕ) → IsAt es k i → T (below_all R l es) → R l k ≡ Less
    below_at l k [] i h below = absurd h
    below_at l k (e ∷ es) zero h below = subst (λ x. R l x ≡ Less) h (is_less _ (first _ _ below))
    below_at l k (e ∷ es) (suc i) h below = below_at l k es i h (second _ _ below)

    pub present : (es : List (K × X)) (k : K) (i : ℕ) (d : K × X) → IsAt es k i → T (is_sorted R es) → find R k es ≡ Some (get_or es i d).1
    present [] k i d h sorted = absurd h
    present (e ∷ es) k zero d h sorted = rw (ties e.0 k h) refl
    present (e ∷ es) k (suc i) d h sorted = rw (above e.0 k (below_at e.0 k es i h (first _ _ sorted))) (present es k i d h (second _ _ sorted))

    -- an entry overwritten
    pub set_is_put : (es : List (K × X)) (k : K) (v : X) (i : ℕ) → IsAt es k i → T (is_sorted R es) → set es i (k, v) ≡ put R k v es
    set_is_put [] k v i h sorted = absurd h
    set_is_put (e ∷ es) k v zero h sorted = rw (ties e.0 k h) (ap (λ x. (x, v) ∷ es) (sym h))
    set_is_put (e ∷ es) k v (suc i) h sorted =
        let rest = set_is_put es k v i h (second _ _ sorted) in
        rw (above e.0 k (below_at e.0 k es i h (first _ _ sorted)), rest) refl

    all_kept : (k : K) (es : List (K × X)) → T (below_all R k es) → where_key R (others k) es ≡ es
    all_kept k [] below = refl
    all_kept k (e ∷ es) below =
        let less : R k e.0 ≡ Less = is_less _ (first _ _ below) in
        let rest = all_kept k es (second _ _ below) in
        rw (less, rest) refl

    -- an entry removed
    pub remove_is_where_key : (es : List (K × X)) (k : K) (i : ℕ) → IsAt es k i → T (is_sorted R es) → remove es i ≡ where_key R (others k) es
    remove_is_where_key [] k i h sorted = absurd h
    remove_is_where_key (e ∷ es) k zero h sorted = rw (ties e.0 k h) (sym (all_kept k es (subst (λ x. T (below_all R x es)) h (first _ _ sorted))))
    remove_is_where_key (e ∷ es) k (suc i) h sorted =
        let rest = remove_is_where_key es k i h (second _ _ sorted) in
        rw (above e.0 k (below_at e.0 k es i h (first _ _ sorted)), rest) refl

    -- the map of no entries
    pub map_of_none : (es : List (K × X)) → es ≡ [] → from_sorted {R = R} es ≡ map.empty
    map_of_none es h = rw h (empty_of_len _ (len-entries _ ∙ ap length (entries-from_sorted R [] tt)))

    pub map_inserted : (es : List (K × X)) (k : K) (v : X) (i : ℕ) → WouldBeAt R es k i → T (is_sorted R es) → T (is_sorted R (insert es i (k, v))) × (from_sorted {R = R} (insert es i (k, v)) ≡ map.insert (from_sorted es) k v)
    map_inserted es k v i h sorted =
        let became = insert_is_put es k v i h in
        let order = is_sorted-put R o k v es sorted in
        rw became (order, same_entries_map _ _ (entries-from_sorted R _ order ∙ ap (put R k v) (sym (entries-from_sorted R es sorted)) ∙ sym (entries-insert o _ k v)))

    pub map_replaced : (es : List (K × X)) (k : K) (v : X) (i : ℕ) → IsAt es k i → T (is_sorted R es) → T (is_sorted R (set es i (k, v))) × (from_sorted {R = R} (set es i (k, v)) ≡ map.insert (from_sorted es) k v)
    map_replaced es k v i h sorted =
        let became = set_is_put es k v i h sorted in
        let order = is_sorted-put R o k v es sorted in
        rw became (order, same_entries_map _ _ (entries-from_sorted R _ order ∙ ap (put R k v) (sym (entries-from_sorted R es sorted)) ∙ sym (entries-insert o _ k v)))

    pub map_removed : IsAntisymmetric R → (es : List (K × X)) (k : K) (i : ℕ) → IsAt es k i → T (is_sorted R es) → T (is_sorted R (remove es i)) × (from_sorted {R = R} (remove es i) ≡ map.remove (from_sorted es) k)
    map_removed same es k i h sorted =
        let became = remove_is_where_key es k i h sorted in
        let order = is_sorted-where_key R (others k) es sorted in
        let gets : (q : K) → map.get (from_sorted {R = R} (where_key R (others k) es)) q ≡ map.get (map.remove (from_sorted {R = R} es) k) q = λ q.
        get-from_sorted R _ q order ∙ find-where_key R (others k) q (λ x t. ap (λ r. not (is_eq r)) (sym (alike_right o q x k t))) es
        ∙ turned (eq_by_cmp R k q) (find R q es) None
        ∙ ap (λ b. cond b None (find R q es)) ((eq_by_cmp_equiv o).symm k q)
        ∙ ap (cond (eq_by_cmp R q k) None) (sym (get-from_sorted R es q sorted))
        ∙ sym (get-remove o (from_sorted es) k q) in
        rw became (order, same_map o same _ _ gets)

    missing_at : (m : map.FinMap R X) (k q : K) → map.get m k ≡ None → (tied : Bool) → eq_by_cmp R q k ≡ tied → map.get m q ≡ cond (eq_by_cmp R q k) None (map.get m q)
    missing_at m k q none true e = rw e (get_tied o m k q (tied_back o q k (is_equal (R q k) (subst T (sym e) tt))) ∙ none)
    missing_at m k q none false e = rw e refl

    -- removing a key that a map does not have changes nothing
    pub map_kept : IsAntisymmetric R → (m : map.FinMap R X) (k : K) → map.get m k ≡ None → m ≡ map.remove m k
    map_kept same m k none = same_map o same m (map.remove m k) (λ q. missing_at m k q none (eq_by_cmp R q k) refl ∙ sym (get-remove o m k q))
