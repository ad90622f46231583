-- The invariant for a new row, after a split and after a join; and the parts of the seats that the passes get.
use Rattle.camp_row.proofs.Words.{◌≡◌, ℕ, zero, suc, ◌+◌, ◌-◌, ◌*◌, ◌<◌, ◌≤◌, inl, inr, List, [], ◌∷◌, ◌++◌, replicate, cond, ◌==◌, sym, refl, ap, ◌∙◌, subst, arith, set, slice_index, sum_by, All, map, take, drop, length-replicate, sum_by-cons, sum_by_push, sum_by-append, All-cons, All-nil, All-map, All-take, All-drop, All-append, All-weaker, cases_eq, range_with_len, some, some-injective, some-ne-none, get_elem?, Splits, Joins, at_set, at_snoc, set_else, Knowledge, Part, parts_of, fresh, all_fresh, parent_word, index_word, HasCell, Knows, IsRuled, first_apart, without_first, joined_views, spent}
use Rattle.std.proofs.lemmas.List.Sums.{sum_by-take-drop}
use Rattle.camp_row.proofs.Prefixes.{prefix_nil, no_cut}
use Rattle.camp_row.proofs.Ruling.{Ruled, with_views, sum_set, parts_of-self, parts_of-other}

-- a split of a seat
pub splits : (seats per_seat id : ℕ) (v : Knowledge) → Splits (Ruled seats per_seat) id v (without_first v) (first_apart v)
splits seats per_seat id v s ruled at =
    let K : Part → Type 0 = Knows seats per_seat s.words ruled.chain in
    let left : List Knowledge = set s.views id (without_first v) in
    with_views (left ++ first_apart v ∷ []) ruled
    (λ n.
    let f : Knowledge → ℕ = λ u. parts_of n u.parts in
    let a : sum_by f left + f v ≡ sum_by f s.views + f (without_first v) = sum_set f s.views id v (without_first v) at in
    let b : sum_by f (left ++ first_apart v ∷ []) ≡ sum_by f left + f (first_apart v) = sum_by_push f left (first_apart v) in
    let c : f (first_apart v) + f (without_first v) ≡ f v = sum_by-take-drop (λ (part : Part). cond (part.number == n) 1 0) v.parts 1 in
    let one : sum_by f s.views ≤ 1 = ruled.one_each n in
    omega arith)
    (λ j u here. elim (at_snoc left (first_apart v) u j here) [
      | inl old ↦ elim (at_set s.views id j (without_first v) u old) [
        | inl same ↦ subst (λ (x : Knowledge). All K x.parts) same.1 (All-drop K 1 v.parts (ruled.known id v at))
        | inr other ↦ ruled.known j u other.1
      ]
      | inr new ↦ subst (λ (x : Knowledge). All K x.parts) new (All-take K 1 v.parts (ruled.known id v at))
    ])

-- a join of two seats
pub joins : (seats per_seat id : ℕ) (v : Knowledge) (other : ℕ) (w : Knowledge) → Joins (Ruled seats per_seat) id v other w (joined_views v w) spent
joins seats per_seat id v other w s ruled at ne there =
    let K : Part → Type 0 = Knows seats per_seat s.words ruled.chain in
    let both : Knowledge = joined_views v w in
    let left : List Knowledge = set s.views id both in
    let there' : get_elem? s.views other ≡ some w = sym (set_else s.views id other both ne) ∙ there in
    with_views (set left other spent) ruled
    (λ n.
    let f : Knowledge → ℕ = λ u. parts_of n u.parts in
    let a : sum_by f left + f v ≡ sum_by f s.views + f both = sum_set f s.views id v both at in
    let b : sum_by f (set left other spent) + f w ≡ sum_by f left + f spent = sum_set f left other w spent there in
    let c : f both ≡ f w + f v = sum_by-append (λ (part : Part). cond (part.number == n) 1 0) w.parts v.parts in
    let d : f spent ≡ 0 = refl in
    let one : sum_by f s.views ≤ 1 = ruled.one_each n in
    omega arith)
    (λ j u here. elim (at_set left other j spent u here) [
      | inl same ↦ subst (λ (x : Knowledge). All K x.parts) same.1 (All-nil K)
      | inr old ↦ elim (at_set s.views id j both u old.1) [
        | inl same ↦ subst (λ (x : Knowledge). All K x.parts) same.1 (All-append K w.parts v.parts (ruled.known other w there') (ruled.known id v at))
        | inr unchanged ↦ ruled.known j u unchanged.1
      ]
    ])

zero_at : (n i : ℕ) → slice_index (replicate n 0) i ≡ 0
zero_at zero i = refl
zero_at (suc n) zero = refl
zero_at (suc n) (suc i) = zero_at n i

-- a range of numbers: the first one, followed by the range from the next one on
pub range_more : (from len : ℕ) → 0 < len → range_with_len from len ≡ from ∷ range_with_len (from + 1) (len - 1)
range_more from zero positive = absurd (omega arith)
range_more from (suc len) positive = let e : suc len - 1 ≡ len = omega arith in ap (λ n. from ∷ range_with_len (from + 1) n) (sym e)

range_below : (from len above : ℕ) → from + len ≤ above → All (λ n. n < above) (range_with_len from len)
range_below from zero above fits = All-nil (λ n. n < above)
range_below from (suc len) above fits = All-cons (λ n. n < above) from (range_with_len (from + 1) len) (omega arith) (range_below (from + 1) len above (omega arith))

module _ (seats per_seat : ℕ) where
  none_below : (number from len : ℕ) → number < from → parts_of number (map (fresh seats per_seat) (range_with_len from len)) ≡ 0
  none_below number from zero low = refl
  none_below number from (suc len) low =
      parts_of-other number (fresh seats per_seat from) (map (fresh seats per_seat) (range_with_len (from + 1) len)) (λ e. absurd (omega arith)) ∙ none_below number (from + 1) len (omega arith)

  one_of : (number from len : ℕ) → parts_of number (map (fresh seats per_seat) (range_with_len from len)) ≤ 1
  one_of number from zero = omega arith
  one_of number from (suc len) =
      let rest : List Part = map (fresh seats per_seat) (range_with_len (from + 1) len) in
      elim (cases_eq from number) [
        | inl same ↦
            let self : parts_of from (fresh seats per_seat from ∷ rest) ≡ 1 + parts_of from rest = parts_of-self (fresh seats per_seat from) rest in
            let later = none_below from (from + 1) len (omega arith) in
            subst (λ n. parts_of n (fresh seats per_seat from ∷ rest) ≤ 1) same (omega arith)
        | inr differs ↦
            let other : parts_of number (fresh seats per_seat from ∷ rest) ≡ parts_of number rest = parts_of-other number (fresh seats per_seat from) rest differs in
            let later = one_of number (from + 1) len in
            omega arith
      ]

  -- a row of zeros, and one seat that has all parts
  pub opens : IsRuled seats per_seat (replicate (1 + 2 * (per_seat * seats)) 0) (record { parts = all_fresh seats per_seat } ∷ [])
  opens =
      let words : List ℕ = replicate (1 + 2 * (per_seat * seats)) 0 in
      let K : Part → Type 0 = Knows seats per_seat words [] in
      let v : Knowledge = record { parts = all_fresh seats per_seat } in
      let empty : (cell : ℕ) → HasCell words cell 0 0 = λ cell. record { parent_is = zero_at (1 + 2 * (per_seat * seats)) (parent_word cell); index_is = zero_at (1 + 2 * (per_seat * seats)) (index_word cell) } in
      let fresh_knows : (n : ℕ) → n < seats → K (fresh seats per_seat n) = λ n below. record {
        sizes = (refl, refl, below);
        seen = prefix_nil [];
        ahead = prefix_nil [];
        own_seen = refl;
        draft = λ room. empty (0 * seats + n);
        empty = λ nth later room. empty (nth * seats + n);
      } in
      let all : All K (all_fresh seats per_seat) =
      All-map K (fresh seats per_seat) (range_with_len 0 seats) (All-weaker (λ n. n < seats) (λ n. K (fresh seats per_seat n)) fresh_knows (range_with_len 0 seats) (range_below 0 seats seats (omega arith))) in record {
        chain = [];
        sized = length-replicate (1 + 2 * (per_seat * seats)) 0;
        head = zero_at (1 + 2 * (per_seat * seats)) 0;
        linked = λ before e after cut. absurd (no_cut before e after cut);
        fits = λ before e after cut. absurd (no_cut before e after cut);
        one_each = λ n. let f : Knowledge → ℕ = λ u. parts_of n u.parts in let s : sum_by f (v ∷ []) ≡ f v + sum_by f [] = sum_by-cons f v [] in let one = one_of n 0 seats in omega arith;
        known = alone K v all;
      } where
        alone : (P : Part → Type 0) (v : Knowledge) → All P v.parts → (j : ℕ) (u : Knowledge) → get_elem? (v ∷ []) j ≡ some u → All P u.parts
        alone P v all zero u here = subst (λ (x : Knowledge). All P x.parts) (some-injective v u here) all
        alone P v all (suc j) u here = absurd (some-ne-none u (sym here))

  -- the first of the parts that are left, and the others
  pub first_left : (n : ℕ) (parts : List Part) → n < seats → parts ≡ map (fresh seats per_seat) (range_with_len n (seats - n))
      → (take 1 parts ≡ fresh seats per_seat n ∷ []) × (drop 1 parts ≡ map (fresh seats per_seat) (range_with_len (n + 1) (seats - (n + 1))))
  first_left n parts below are =
      let len : seats - n - 1 ≡ seats - (n + 1) = omega arith in
      let more : parts ≡ fresh seats per_seat n ∷ map (fresh seats per_seat) (range_with_len (n + 1) (seats - (n + 1))) =
      are ∙ (ap (map (fresh seats per_seat)) (range_more n (seats - n) (omega arith)) ∙ ap (λ l. fresh seats per_seat n ∷ map (fresh seats per_seat) (range_with_len (n + 1) l)) len) in (
        ap (take 1) more,
        ap (drop 1) more,
      )
