-- The rule of the row, when a step changes one view and perhaps one word.
use Rattle.camp_row.proofs.Words.{◌≡◌, ◌≢◌, ℕ, zero, suc, ◌+◌, ◌≤◌, inl, inr, List, [], ◌∷◌, length, cond, ◌==◌, sym, refl, ap, ◌∙◌, subst, arith, zero-add, set, get_or, slice_index, sum_by, All, get_or-set_other, set-get_or, sum_by-cons, All-head, All-cons, All-nil, eq-eqb, ne_eqb, cond-true, cond-false, some, some-injective, some-ne-none, get_elem?, State, Me, keeps, Allows, at_set, set_else, spent, Entry, Knowledge, head_word, FitsRow, Part, parts_of, parent_word, index_word, HasCell, IsLinked, Knows, IsRuled}

-- the obligation of a step that takes no slot: whatever the words and the views are, some view keeps the invariant
abbrev pub Owes : ℕ → ℕ → ℕ → Knowledge → ℕ → (ℕ → ℕ) → (ℕ → Knowledge → Type 0) → Type 0
Owes seats per_seat id v i f then = (words : List ℕ) (views : List Knowledge) → IsRuled seats per_seat words views → get_elem? views id ≡ some v
    → (w : Knowledge) × IsRuled seats per_seat (set words i (f (slice_index words i))) (set views id w) × then (slice_index words i) w

abbrev pub Ruled : ℕ → ℕ → State (Unit {0}) Knowledge → Type 0
Ruled seats per_seat s = IsRuled seats per_seat s.words s.views

pub allows : (seats per_seat slots id : ℕ) (me : Me (Unit {0}) Knowledge) (i : ℕ) (f : ℕ → ℕ) (then : ℕ → Knowledge → Type 0)
    → Owes seats per_seat id me.0 i f then → Allows (Ruled seats per_seat) slots id me i f (λ n m. (m.1 ≡ me.1) × then n m.0)
allows seats per_seat slots id me i f then owes s ruled homes at fits = let o = owes s.words s.views ruled at in (o.0, keeps, tt, o.1, (refl, o.2))

-- a view with one part
abbrev pub only : Part → Knowledge
only p = record { parts = p ∷ [] }

pub allows_one : (seats per_seat slots id : ℕ) (me : Me (Unit {0}) Knowledge) (i : ℕ) (f : ℕ → ℕ) (then : ℕ → List Part → List Part → Type 0) (p : Part) → me.0.parts ≡ p ∷ []
    → Owes seats per_seat id (only p) i f (λ n w. then n (p ∷ []) w.parts) → Allows (Ruled seats per_seat) slots id me i f (λ n m. (m.1 ≡ me.1) × then n me.0.parts m.0.parts)
allows_one seats per_seat slots id me i f then p alone owes =
    allows seats per_seat slots id me i f (λ n w. then n me.0.parts w.parts)
    (subst (λ ps. Owes seats per_seat id (record { parts = ps }) i f (λ n w. then n ps w.parts)) (sym alone) owes)

-- sums over views
module _ (f : Knowledge → ℕ) where
  pub sum_set : (views : List Knowledge) (id : ℕ) (v w : Knowledge) → get_elem? views id ≡ some v → sum_by f (set views id w) + f v ≡ sum_by f views + f w
  sum_set [] id v w at = absurd (some-ne-none v (sym at))
  sum_set (x ∷ xs) zero v w at = let e : f x ≡ f v = ap f (some-injective x v at) in let l : sum_by f (set (x ∷ xs) 0 w) ≡ f w + sum_by f xs = sum_by-cons f w xs in omega (arith, sum_by-cons f x xs)
  sum_set (x ∷ xs) (suc id) v w at =
      let h = sum_set xs id v w at in let l : sum_by f (set (x ∷ xs) (suc id) w) ≡ f x + sum_by f (set xs id w) = sum_by-cons f x (set xs id w) in omega (arith, sum_by-cons f x xs)

pub parts_of-cons : (number : ℕ) (p : Part) (ps : List Part) → parts_of number (p ∷ ps) ≡ cond (p.number == number) 1 0 + parts_of number ps
parts_of-cons number p ps = sum_by-cons (λ (part : Part). cond (part.number == number) 1 0) p ps

pub parts_of-self : (p : Part) (ps : List Part) → parts_of p.number (p ∷ ps) ≡ 1 + parts_of p.number ps
parts_of-self p ps = parts_of-cons p.number p ps ∙ ap (λ n. n + parts_of p.number ps) (cond-true (p.number == p.number) 1 0 (eq-eqb p.number p.number refl))

pub parts_of-other : (number : ℕ) (p : Part) (ps : List Part) → p.number ≢ number → parts_of number (p ∷ ps) ≡ parts_of number ps
parts_of-other number p ps differs = parts_of-cons number p ps ∙ (ap (λ n. n + parts_of number ps) (cond-false (p.number == number) 1 0 (ne_eqb p.number number differs)) ∙ zero-add (parts_of number ps))

all_apart : (qs ps : List Part) → ((n : ℕ) → parts_of n ps + parts_of n qs ≤ 1) → All (λ (q : Part). parts_of q.number ps ≡ 0) qs
all_apart [] ps few = All-nil (λ (q : Part). parts_of q.number ps ≡ 0)
all_apart (q ∷ qs) ps few =
    All-cons (λ (q : Part). parts_of q.number ps ≡ 0) q qs
    (let h = few q.number in omega (arith, parts_of-self q qs))
    (all_apart qs ps (λ n. let h = few n in omega (arith, parts_of-cons n q qs)))

all_both : (P Q R : Part → Type 0) → ((q : Part) → P q → Q q → R q) → (qs : List Part) → All P qs → All Q qs → All R qs
all_both P Q R both qs p q = λ k d h. both (get_or qs k d) (p k d h) (q k d h)

module _ (seats per_seat : ℕ) (words : List ℕ) (views : List Knowledge) (ruled : IsRuled seats per_seat words views) (id : ℕ) (v : Knowledge) (at : get_elem? views id ≡ some v) where
  pub others_apart : (j : ℕ) (u : Knowledge) → j ≢ id → get_elem? views j ≡ some u → All (λ (q : Part). parts_of q.number v.parts ≡ 0) u.parts
  others_apart j u ne other = all_apart u.parts v.parts (λ n.
      let f : Knowledge → ℕ = λ u. parts_of n u.parts in
      let without : sum_by f (set views id spent) + f v ≡ sum_by f views + 0 = sum_set f views id v spent at in
      let two : sum_by f (set (set views id spent) j spent) + f u ≡ sum_by f (set views id spent) + 0 = sum_set f (set views id spent) j u spent (set_else views id j spent ne ∙ other) in
      let one = ruled.one_each n in
      omega arith)

  -- the rule after a step
  pub keep : (words' : List ℕ) (chain' : List Entry) (w : Knowledge)
      → length words' ≡ length words → slice_index words' 0 ≡ head_word seats chain' → IsLinked seats words' chain' → FitsRow seats per_seat chain'
      → ((number : ℕ) → parts_of number w.parts ≡ parts_of number v.parts)
      → All (Knows seats per_seat words' chain') w.parts
      → ((q : Part) → parts_of q.number v.parts ≡ 0 → Knows seats per_seat words ruled.chain q → Knows seats per_seat words' chain' q)
      → IsRuled seats per_seat words' (set views id w)
  keep words' chain' w long head linked fits count mine theirs = record {
    chain = chain';
    sized = long ∙ ruled.sized;
    head = head;
    linked = linked;
    fits = fits;
    one_each = λ n. let s = sum_set (λ (u : Knowledge). parts_of n u.parts) views id v w at in let c = count n in let one = ruled.one_each n in omega arith;
    known = λ j u here. elim (at_set views id j w u here) [
      | inl same ↦ subst (λ (x : Knowledge). All (Knows seats per_seat words' chain') x.parts) same.1 mine
      | inr other ↦ all_both (λ q. parts_of q.number v.parts ≡ 0) (Knows seats per_seat words ruled.chain) (Knows seats per_seat words' chain') theirs u.parts (others_apart j u other.0 other.1) (ruled.known j u other.1)
    ];
  }

-- the invariant for other views, if no word changes
pub with_views : {seats per_seat : ℕ} {words : List ℕ} {views : List Knowledge} (others : List Knowledge) (ruled : IsRuled seats per_seat words views)
    → ((number : ℕ) → sum_by (λ (view : Knowledge). parts_of number view.parts) others ≤ 1)
    → ((seat : ℕ) (view : Knowledge) → get_elem? others seat ≡ some view → All (Knows seats per_seat words ruled.chain) view.parts) → IsRuled seats per_seat words others
with_views others ruled one_each known = record { chain = ruled.chain; sized = ruled.sized; head = ruled.head; linked = ruled.linked; fits = ruled.fits; one_each = one_each; known = known }

-- the words of cells, when one word changes
pub word_same : (words : List ℕ) (i : ℕ) → set words i (slice_index words i) ≡ words
word_same words i = set-get_or words i 0

pub has_cell_other : (words : List ℕ) (i x cell parent index : ℕ) → i ≢ parent_word cell → i ≢ index_word cell → HasCell words cell parent index → HasCell (set words i x) cell parent index
has_cell_other words i x cell parent index apart apart' h = record {
  parent_is = get_or-set_other words i (parent_word cell) x 0 (λ e. apart (sym e)) ∙ h.parent_is;
  index_is = get_or-set_other words i (index_word cell) x 0 (λ e. apart' (sym e)) ∙ h.index_is;
}

-- the invariant after a step by a seat with one part
module _ (seats per_seat : ℕ) (words : List ℕ) (views : List Knowledge) (ruled : IsRuled seats per_seat words views) (id : ℕ) (p : Part) (at : get_elem? views id ≡ some (only p)) where
  pub knows : Knows seats per_seat words ruled.chain p
  knows = All-head (Knows seats per_seat words ruled.chain) p [] (ruled.known id (only p) at)

  same_count : (number : ℕ) (q : Part) → q.number ≡ p.number → parts_of number (q ∷ []) ≡ parts_of number (p ∷ [])
  same_count number q same = parts_of-cons number q [] ∙ (ap (λ n. cond (n == number) 1 0 + parts_of number []) same ∙ sym (parts_of-cons number p []))

  other_number : (o : Part) → parts_of o.number (p ∷ []) ≡ 0 → o.number ≢ p.number
  other_number o none same = let one = parts_of-self p [] in let here : parts_of o.number (p ∷ []) ≡ parts_of p.number (p ∷ []) = ap (λ n. parts_of n (p ∷ [])) same in absurd (omega arith)

  pub keep_one : (words' : List ℕ) (chain' : List Entry) (q : Part)
      → length words' ≡ length words → slice_index words' 0 ≡ head_word seats chain' → IsLinked seats words' chain' → FitsRow seats per_seat chain'
      → q.number ≡ p.number
      → Knows seats per_seat words' chain' q
      → ((o : Part) → o.number ≢ p.number → Knows seats per_seat words ruled.chain o → Knows seats per_seat words' chain' o)
      → IsRuled seats per_seat words' (set views id (only q))
  keep_one words' chain' q long head linked fits same mine theirs =
      keep seats per_seat words views ruled id (only p) at words' chain' (only q) long head linked fits (λ n. same_count n q same)
      (All-cons (Knows seats per_seat words' chain') q [] mine (All-nil (Knows seats per_seat words' chain')))
      (λ o none. theirs o (other_number o none))

  -- no word changes
  pub keep_words : (i : ℕ) (q : Part) → q.number ≡ p.number → Knows seats per_seat words ruled.chain q → IsRuled seats per_seat (set words i (slice_index words i)) (set views id (only q))
  keep_words i q same mine =
      subst (λ ws. IsRuled seats per_seat ws (set views id (only q))) (sym (word_same words i))
      (keep_one words ruled.chain q refl ruled.head ruled.linked ruled.fits same mine (λ o _ known. known))
