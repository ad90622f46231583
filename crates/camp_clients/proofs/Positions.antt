-- Lemmas on calls with their positions.
use Rattle.std.proofs.lemmas.List.{append-nil, drop_all, drop_more}
use Rattle.camp_clients.proofs.Words.{cases_lt, eqb_tells, IsBeginning, own, own_at, where_done, done_at, ◌≡◌, ℕ, ◌+◌, ◌==◌, true, false, cond, List, [], ◌∷◌, ◌++◌, length, Option, None, Some, refl, sym, ◌∙◌, ap, zero-add, inl, inr, min, drop, get_or, ◌<◌, ◌≤◌, eq-eqb, arith}
use Rattle.camp_clients.proofs.Histories.{own_rest, same_seat}

-- the calls of a seat in two parts of a history, one after the other
pub own_at-append : {Call : Type 0} (seat before : ℕ) (h more : List (ℕ × Call))
    → own_at seat before (h ++ more) ≡ own_at seat before h ++ own_at seat (before + length h) more
own_at-append seat before [] more = ap (λ n. own_at seat n more) (omega arith)
own_at-append seat before (entry ∷ h) more =
    let e : (before + 1) + length h ≡ before + length (entry ∷ h) = omega arith in
    let rest = rw e at (own_at-append seat (before + 1) h more) in
    elim (entry.0 == seat)
    as (λ b. cond b ((before + 1, entry.1) ∷ own_at seat (before + 1) (h ++ more)) (own_at seat (before + 1) (h ++ more))
    ≡ cond b ((before + 1, entry.1) ∷ own_at seat (before + 1) h) (own_at seat (before + 1) h) ++ own_at seat (before + length (entry ∷ h)) more)
    [ true ↦ ap (λ xs. (before + 1, entry.1) ∷ xs) rest | false ↦ rest ]

-- two lists with the same first call
pub same_first : {Call : Type 0} (n m : ℕ) (a b : Call) (xs ys : List (ℕ × Call)) → (n, a) ∷ xs ≡ (m, b) ∷ ys → (n ≡ m) × (a ≡ b) × (xs ≡ ys)
same_first {Call} n m a b xs ys is =
    let one : ℕ × Call = (n, a) in
    let two : ℕ × Call = (m, b) in
    let same : one ≡ two = cc is in
    (ap (λ p. p.0) same, ap (λ p. p.1) same, cc is)

-- the positions in a part of a history are greater than the number of entries before it
pub own_at_after : {Call : Type 0} (seat before : ℕ) (h : List (ℕ × Call)) (at : ℕ) (call : Call) (more : List (ℕ × Call))
    → own_at seat before h ≡ (at, call) ∷ more → before < at
own_at_after seat before [] at call more = λ is. absurd (cc is)
own_at_after seat before (entry ∷ h) at call more =
    elim (entry.0 == seat)
    as (λ b. cond b ((before + 1, entry.1) ∷ own_at seat (before + 1) h) (own_at seat (before + 1) h) ≡ (at, call) ∷ more → before < at) [
      | true ↦ (λ is. let first = same_first _ _ _ _ _ _ is in omega (arith, first.0))
      | false ↦ (λ is. let further = own_at_after seat (before + 1) h at call more is in omega arith)
    ]

-- a call at the next position is the next call
pub own_at_first : {Call : Type 0} (seat before : ℕ) (h : List (ℕ × Call)) (call : Call) (left : List (ℕ × Call))
    → own_at seat before h ≡ (before + 1, call) ∷ left
    → (more : List (ℕ × Call)) × (h ≡ (seat, call) ∷ more) × (own_at seat (before + 1) more ≡ left)
own_at_first seat before [] call left is = absurd (cc is)
own_at_first seat before (entry ∷ h) call left is =
    elim (eqb_tells entry.0 seat) [
      | inl same ↦ (
          let here : (before + 1, entry.1) ∷ own_at seat (before + 1) h ≡ (before + 1, call) ∷ left = rw same.0 at is in
          let first = same_first _ _ _ _ _ _ here in
          (h, ap (λ n. (n, entry.1) ∷ h) same.1 ∙ ap (λ c. (seat, c) ∷ h) first.1, first.2))
      | inr other ↦ absurd (
          let further = own_at_after seat (before + 1) h (before + 1) call left (rw other.0 at is) in omega arith)
    ]

-- a call of the seat has the next position
pub own_at_mine : {Call : Type 0} (seat before : ℕ) (entry : ℕ × Call) (h : List (ℕ × Call)) → entry.0 ≡ seat
    → own_at seat before (entry ∷ h) ≡ (before + 1, entry.1) ∷ own_at seat (before + 1) h
own_at_mine seat before entry h mine = rw (eq-eqb entry.0 seat mine) refl

-- without calls of a seat there are none with positions
pub own_at_none : {Call : Type 0} (seat before : ℕ) (h : List (ℕ × Call)) → own seat h ≡ [] → own_at seat before h ≡ []
own_at_none seat before [] = λ none. refl
own_at_none seat before (entry ∷ h) =
    elim (entry.0 == seat)
    as (λ b. cond b (entry.1 ∷ own seat h) (own seat h) ≡ [] → cond b ((before + 1, entry.1) ∷ own_at seat (before + 1) h) (own_at seat (before + 1) h) ≡ [])
    [ true ↦ (λ none. absurd (cc none)) | false ↦ (λ none. own_at_none seat (before + 1) h none) ]

-- a prefix with all calls of a seat has them at the same positions
pub own_at_prefix : {Call : Type 0} (seat : ℕ) (f h : List (ℕ × Call)) (prefix : IsBeginning f h) → own seat h ≡ own seat f → own_at seat 0 h ≡ own_at seat 0 f
own_at_prefix seat f h prefix same =
    let none = own_at_none seat (0 + length f) prefix.rest (own_rest seat f h prefix same) in
    sym (ap (own_at seat 0) prefix.makes) ∙ own_at-append seat 0 f prefix.rest ∙ ap (λ xs. own_at seat 0 f ++ xs) none ∙ append-nil (own_at seat 0 f)

pub where_done-append : {Call : Type 0} (at : Option ℕ) (call : Call) (rest : List (ℕ × Call)) → where_done at call [] ++ rest ≡ where_done at call rest
where_done-append None call rest = refl
where_done-append (Some at) call rest = refl

-- one more call of the seat
pub own_at_push : {Call : Type 0} (seat : ℕ) (h : List (ℕ × Call)) (call : Call)
    → own_at seat 0 (h ++ (seat, call) ∷ []) ≡ own_at seat 0 h ++ (length h + 1, call) ∷ []
own_at_push seat h call = own_at-append seat 0 h ((seat, call) ∷ []) ∙ rw (same_seat, zero-add)

module _ {Call Answer : Type 0} (reported_position : Answer → Option ℕ) where
  no_answers : (calls : List Call) → done_at reported_position calls [] ≡ []
  no_answers [] = refl
  no_answers (call ∷ calls) = refl

  -- without answers, or without calls, nothing is done
  pub done_at_end : (calls : List Call) (answers : List Answer) (i : ℕ) → min (length calls) (length answers) ≤ i → done_at reported_position (drop i calls) (drop i answers) ≡ []
  done_at_end calls answers i past =
      elim (cases_lt i (length calls)) [
        | inl below ↦ (let short : length answers ≤ i = omega arith in rw (drop_all i answers short) (no_answers (drop i calls)))
        | inr past ↦ rw (drop_all i calls past)
      ]

  -- the call and the answer at an index
  pub done_at_more : (calls : List Call) (answers : List Answer) (i : ℕ) (call : Call) (answer : Answer) (at : Option ℕ)
      → i < length calls → i < length answers → call ≡ get_or calls i call → answer ≡ get_or answers i answer → reported_position answer ≡ at
      → done_at reported_position (drop i calls) (drop i answers) ≡ where_done at call (done_at reported_position (drop (i + 1) calls) (drop (i + 1) answers))
  done_at_more calls answers i call answer at in_calls in_answers is_call is_answer is_at =
      rw (drop_more calls i call in_calls, drop_more answers i answer in_answers, ← is_call, ← is_answer, is_at)
