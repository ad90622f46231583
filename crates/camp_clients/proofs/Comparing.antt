-- Lemmas on comparing a history with answers, entry by entry.
use Rattle.camp_clients.proofs.Words.{eqb_tells, cases_lt, own_at, done_at, IsExactly, section_of, ◌≡◌, ℕ, ◌+◌, ◌≤◌, ◌<◌, ◌==◌, false, List, [], ◌∷◌, ◌++◌, length, Option, take, drop, get_or, refl, sym, ◌∙◌, ap, subst, append_assoc, replicate, inl, inr, arith, AreFoundUpTo, Matches, Differs, left_from}
use Rattle.std.proofs.lemmas.List.{append-nil, append_cancel_left, take_more, take_all, take-append-drop, length-take-le, get_or-set_same, get_or-set_other, get_or-replicate, get_or_past, length-replicate, get_or_default}
use Rattle.camp_clients.proofs.Positions.{own_at-append, own_at_push}

module _ {Call : Type 0} (history : List (ℕ × Call)) (i : ℕ) (below : i < length history) (entry : ℕ × Call) (is_entry : entry ≡ get_or history i entry) where
  prefix_more : take (i + 1) history ≡ take i history ++ entry ∷ []
  prefix_more = take_more history i entry below ∙ ap (λ e. take i history ++ e ∷ []) (sym is_entry)

  own_more : own_at entry.0 0 (take (i + 1) history) ≡ own_at entry.0 0 (take i history) ++ (i + 1, entry.1) ∷ []
  own_more = ap (own_at entry.0 0) prefix_more ∙ own_at_push entry.0 (take i history) entry.1
      ∙ ap (λ n. own_at entry.0 0 (take i history) ++ (n + 1, entry.1) ∷ []) (length-take-le i history (omega arith))

  other_more : (seat : ℕ) → (entry.0 == seat) ≡ false → own_at seat 0 (take (i + 1) history) ≡ own_at seat 0 (take i history)
  other_more seat other = ap (own_at seat 0) prefix_more ∙ own_at-append seat 0 (take i history) (entry ∷ []) ∙ rw other (append-nil (own_at seat 0 (take i history)))

  own_whole : (rest : List (ℕ × Call)) × (own_at entry.0 0 history ≡ own_at entry.0 0 (take i history) ++ (i + 1, entry.1) ∷ rest)
  own_whole =
      let rest = own_at entry.0 (0 + length (take (i + 1) history)) (drop (i + 1) history) in (
        rest,
        sym (ap (own_at entry.0 0) (take-append-drop (i + 1) history))
            ∙ own_at-append entry.0 0 (take (i + 1) history) (drop (i + 1) history)
            ∙ ap (λ xs. xs ++ rest) own_more
            ∙ append_assoc (own_at entry.0 0 (take i history)) ((i + 1, entry.1) ∷ []) rest,
      )

module _ {Call Answer : Type 0} (reported_position : Answer → Option ℕ) (sections : List (List Call)) (answers : List (List Answer)) where
  pub found_none : (indexes : List ℕ) → ((seat : ℕ) → get_or indexes seat 0 ≡ 0) → AreFoundUpTo reported_position sections answers [] indexes
  found_none indexes zeros seat below = rw (zeros seat) refl

  module _ (history : List (ℕ × Call)) (i : ℕ) (below : i < length history) (entry : ℕ × Call) (is_entry : entry ≡ get_or history i entry)
      (indexes : List ℕ) (found : AreFoundUpTo reported_position sections answers (take i history) indexes) where
    pub found_more : (after : List ℕ) → length sections ≤ length indexes → Matches reported_position sections answers (i + 1) entry indexes after
        → AreFoundUpTo reported_position sections answers (take (i + 1) history) after
    found_more after long m seat is_seat =
        let P : ℕ → Type 0 = λ s. done_at reported_position (section_of sections s) (section_of answers s)
        ≡ own_at s 0 (take (i + 1) history) ++ left_from reported_position sections answers s (get_or after s 0) in
        elim (eqb_tells entry.0 seat) [
          | inl same ↦ subst P same.1 (
              let at : get_or after entry.0 0 ≡ m.index = ap (λ xs. get_or xs entry.0 0) m.moves ∙ get_or-set_same indexes entry.0 m.index 0 (omega (arith, m.is_section)) in
              found entry.0 m.is_section
              ∙ ap (λ xs. own_at entry.0 0 (take i history) ++ xs) m.next
              ∙ sym (append_assoc (own_at entry.0 0 (take i history)) ((i + 1, entry.1) ∷ []) (left_from reported_position sections answers entry.0 m.index))
              ∙ rw (own_more history i below entry is_entry, at) refl)
          | inr other ↦ (
              let at : get_or after seat 0 ≡ get_or indexes seat 0 =
              ap (λ xs. get_or xs seat 0) m.moves ∙ get_or-set_other indexes entry.0 seat m.index 0 (λ e. other.1 (sym e)) in
              found seat is_seat ∙ rw (other_more history i below entry is_entry seat other.0, at) refl)
        ]

    pub differs_no_more : Differs reported_position sections answers (i + 1) entry indexes → IsExactly reported_position sections answers history → ⊥
    differs_no_more differs exact =
        let whole = own_whole history i below entry is_entry in
        let is_section : entry.0 < length sections = subst (λ (e : ℕ × Call). e.0 < length sections) (sym is_entry) (exact.no_other i entry below) in
        differs is_section whole.0
        (append_cancel_left (own_at entry.0 0 (take i history)) (left_from reported_position sections answers entry.0 (get_or indexes entry.0 0)) ((i + 1, entry.1) ∷ whole.0)
        (sym (found entry.0 is_section) ∙ sym (exact.own_done entry.0 is_section) ∙ whole.1))

  module _ (history : List (ℕ × Call)) (n : ℕ) (past : length history ≤ n) (indexes : List ℕ) (found : AreFoundUpTo reported_position sections answers (take n history) indexes)
      (seat : ℕ) (is_seat : seat < length sections) where
    found_all : done_at reported_position (section_of sections seat) (section_of answers seat) ≡ own_at seat 0 history ++ left_from reported_position sections answers seat (get_or indexes seat 0)
    found_all = found seat is_seat ∙ rw (take_all n history past) refl

    pub exact_where_none_left : left_from reported_position sections answers seat (get_or indexes seat 0) ≡ []
        → own_at seat 0 history ≡ done_at reported_position (section_of sections seat) (section_of answers seat)
    exact_where_none_left none = sym (found_all ∙ ap (λ xs. own_at seat 0 history ++ xs) none ∙ append-nil (own_at seat 0 history))

    pub none_left : IsExactly reported_position sections answers history → left_from reported_position sections answers seat (get_or indexes seat 0) ≡ []
    none_left exact = append_cancel_left (own_at seat 0 history) (left_from reported_position sections answers seat (get_or indexes seat 0)) []
        (sym found_all ∙ sym (exact.own_done seat is_seat) ∙ sym (append-nil (own_at seat 0 history)))

-- a row of zeros has zero everywhere
pub zeros : (n i : ℕ) → get_or {A = ℕ} (replicate n 0) i 0 ≡ 0
zeros n i = elim (cases_lt i n) [
  | inl below ↦ get_or-replicate {A = ℕ} n i 0 0 below
  | inr past ↦ get_or_past {X = ℕ} (replicate n 0) i 0 (omega (arith, length-replicate {A = ℕ} n 0))
]

-- a fact of each element below an index and of the one there holds of each below the next index
pub each_more : {X : Type 0} (P : X → Type 0) (xs : List X) (i : ℕ) (x : X) → i < length xs → x ≡ get_or xs i x → P x
    → ((k : ℕ) (d : X) → k < i → P (get_or xs k d)) → (k : ℕ) (d : X) → k < i + 1 → P (get_or xs k d)
each_more P xs i x below at holds before k d in_reach =
    elim (cases_lt k i) [
      | inl less ↦ before k d less
      | inr more ↦ (let same : i ≡ k = omega arith in subst (λ n. P (get_or xs n d)) same (subst P (at ∙ get_or_default xs i x d below) holds))
    ]
