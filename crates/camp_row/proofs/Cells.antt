-- The cells of a chain: no two entries have the same one, and the word of the last cell identifies the chain among
-- its prefixes.
use Rattle.camp_row.proofs.Words.{◌≡◌, ◌≢◌, ℕ, suc, ◌+◌, ◌<◌, ◌≤◌, ◌⊎◌, inl, inr, List, [], ◌∷◌, ◌++◌, length, ◌==◌, sym, refl, ap, ◌∙◌, subst, arith, length-append, append-nil, append_assoc, append_cancel_left, filter-append, eq-eqb, ne_eqb, cond-true, cond-false, same_from_place, Entry, IsPrefix, IsProperPrefix, own_entries, entry_count, cell_of, head_after, head_word, FitsRow}
use Rattle.camp_row.proofs.Prefixes.{prefix_cases, cut_longer, cut_push, prefixes_compare, next_is}

pub own_entries-append : (seat : ℕ) (xs ys : List Entry) → own_entries seat (xs ++ ys) ≡ own_entries seat xs ++ own_entries seat ys
own_entries-append seat xs ys = filter-append (λ (e : Entry). e.seat == seat) xs ys

pub own_entries-self : (e : Entry) (later : List Entry) → own_entries e.seat (e ∷ later) ≡ e ∷ own_entries e.seat later
own_entries-self e later = cond-true (e.seat == e.seat) (e ∷ own_entries e.seat later) (own_entries e.seat later) (eq-eqb e.seat e.seat refl)

pub own_entries-other : (seat : ℕ) (e : Entry) (later : List Entry) → e.seat ≢ seat → own_entries seat (e ∷ later) ≡ own_entries seat later
own_entries-other seat e later ne = cond-false (e.seat == seat) (e ∷ own_entries seat later) (own_entries seat later) (ne_eqb e.seat seat ne)

pub entry_count-append : (seat : ℕ) (xs ys : List Entry) → entry_count seat (xs ++ ys) ≡ entry_count seat xs + entry_count seat ys
entry_count-append seat xs ys = ap length (own_entries-append seat xs ys) ∙ length-append (own_entries seat xs) (own_entries seat ys)

pub entry_count-self : (e : Entry) (later : List Entry) → entry_count e.seat (e ∷ later) ≡ suc (entry_count e.seat later)
entry_count-self e later = ap length (own_entries-self e later)

-- an entry at which a chain is cut is one more of its seat
pub entry_count_cut : (before : List Entry) (e : Entry) (after chain : List Entry) → before ++ e ∷ after ≡ chain → entry_count e.seat before < entry_count e.seat chain
entry_count_cut before e after chain cut =
    let at : entry_count e.seat (before ++ e ∷ after) ≡ entry_count e.seat chain = ap (entry_count e.seat) cut in
    let sum = entry_count-append e.seat before (e ∷ after) in
    let one = entry_count-self e after in
    omega arith

pub entry_count_prefix : (seat : ℕ) (xs ys : List Entry) → IsPrefix xs ys → entry_count seat xs ≤ entry_count seat ys
entry_count_prefix seat xs ys f =
    let at : entry_count seat (xs ++ f.rest) ≡ entry_count seat ys = ap (entry_count seat) f.is in
    let sum = entry_count-append seat xs f.rest in
    omega arith

pub own_push_other : (seat : ℕ) (chain : List Entry) (e : Entry) → e.seat ≢ seat → own_entries seat (chain ++ e ∷ []) ≡ own_entries seat chain
own_push_other seat chain e ne = own_entries-append seat chain (e ∷ []) ∙ (ap (λ l. own_entries seat chain ++ l) (own_entries-other seat e [] ne) ∙ append-nil (own_entries seat chain))

-- if a seat has no entry that was not seen, the next entry is another seat's
module _ (seat : ℕ) (seen : List Entry) (e : Entry) (later ahead : List Entry) (cut : seen ++ e ∷ later ≡ ahead) (same : own_entries seat ahead ≡ own_entries seat seen) where
  rest_is_nil : own_entries seat (e ∷ later) ≡ []
  rest_is_nil = append_cancel_left (own_entries seat seen) (own_entries seat (e ∷ later)) [] (sym (own_entries-append seat seen (e ∷ later)) ∙ (ap (own_entries seat) cut ∙ (same ∙ sym (append-nil (own_entries seat seen)))))

  pub next_is_others : e.seat ≢ seat
  next_is_others is = let h : own_entries e.seat (e ∷ later) ≡ [] = subst (λ s. own_entries s (e ∷ later) ≡ []) (sym is) rest_is_nil in let k : e ∷ own_entries e.seat later ≡ [] = sym (own_entries-self e later) ∙ h in absurd cc

  pub own_of_next : own_entries seat (seen ++ e ∷ []) ≡ own_entries seat seen
  own_of_next = own_push_other seat seen e next_is_others

head_after-push : (seats : ℕ) (before : List Entry) (word : ℕ) (chain : List Entry) (e : Entry) → head_after seats before word (chain ++ e ∷ []) ≡ cell_of seats (before ++ chain) e + 1
head_after-push seats before word [] e = ap (λ l. cell_of seats l e + 1) (sym (append-nil before))
head_after-push seats before word (x ∷ chain) e =
    head_after-push seats (before ++ x ∷ []) (cell_of seats before x + 1) chain e ∙ ap (λ l. cell_of seats l e + 1) (append_assoc before (x ∷ []) chain)

pub head_word-push : (seats : ℕ) (chain : List Entry) (e : Entry) → head_word seats (chain ++ e ∷ []) ≡ cell_of seats chain e + 1
head_word-push seats chain e = head_after-push seats [] 0 chain e

-- a list is empty, or has a last element
pub record HasLast (chain : List Entry) : Type 0 where
  pub before : List Entry
  pub last : Entry
  pub is : before ++ last ∷ [] ≡ chain

pub last_cases : (chain : List Entry) → (chain ≡ []) ⊎ (HasLast chain)
last_cases [] = inl refl
last_cases (x ∷ xs) = inr (elim (last_cases xs) [
  | inl none ↦ record { before = []; last = x; is = λ k. x ∷ sym none k }
  | inr some ↦ record { before = x ∷ some.before; last = some.last; is = λ k. x ∷ some.is k }
])

module _ (seats per_seat : ℕ) (chain : List Entry) (fits : FitsRow seats per_seat chain) where
  -- two entries of one seat with equal indexes in its list, of which the second comes after the first in the chain
  none_between : (b : List Entry) (e : Entry) (a c : List Entry) (f : Entry) (d : List Entry) → b ++ e ∷ a ≡ chain → c ++ f ∷ d ≡ chain → entry_count e.seat b ≡ entry_count e.seat c → IsProperPrefix b c → ⊥
  none_between b e a c f d at_e at_f same s =
      let next : s.next ≡ e = next_is b s.next e (s.rest ++ f ∷ d) a chain (cut_longer b s.next s.rest c (f ∷ d) chain s.is at_f) at_e in
      let more : entry_count e.seat b < entry_count e.seat c = subst (λ (x : Entry). entry_count x.seat b < entry_count x.seat c) next (entry_count_cut b s.next s.rest c s.is) in
      omega arith

  -- two entries of one cell are at the same position of the chain
  pub one_place : (b : List Entry) (e : Entry) (a : List Entry) (c : List Entry) (f : Entry) (d : List Entry) → b ++ e ∷ a ≡ chain → c ++ f ∷ d ≡ chain → cell_of seats b e ≡ cell_of seats c f → b ≡ c
  one_place b e a c f d at_e at_f same =
      let apart = same_from_place (entry_count e.seat b) e.seat (entry_count f.seat c) f.seat seats (fits b e a at_e).0 (fits c f d at_f).0 same in
      let seat_is : e.seat ≡ f.seat = apart.1 in
      elim (prefixes_compare b c chain (record { rest = e ∷ a; is = at_e }) (record { rest = f ∷ d; is = at_f })) [
        | inl b_first ↦ elim (prefix_cases b c b_first) [
          | inl is ↦ is
          | inr shorter ↦ absurd (none_between b e a c f d at_e at_f (apart.0 ∙ ap (λ s. entry_count s c) (sym seat_is)) shorter)
        ]
        | inr shorter ↦ absurd (none_between c f d b e a at_f at_e (sym apart.0 ∙ ap (λ s. entry_count s b) seat_is) shorter)
      ]

  -- two prefixes of the chain with the same last cell are equal
  pub same_prefix : (xs ys : List Entry) → IsPrefix xs chain → IsPrefix ys chain → head_word seats xs ≡ head_word seats ys → xs ≡ ys
  same_prefix xs ys f g same = at (last_cases xs) (last_cases ys) where
    named : (zs : List Entry) (l : HasLast zs) → head_word seats zs ≡ cell_of seats l.before l.last + 1
    named zs l = ap (head_word seats) (sym l.is) ∙ head_word-push seats l.before l.last

    at : (xs ≡ []) ⊎ (HasLast xs) → (ys ≡ []) ⊎ (HasLast ys) → xs ≡ ys
    at (inl x) (inl y) = x ∙ sym y
    at (inl x) (inr l) = let zero_is : head_word seats xs ≡ 0 = ap (head_word seats) x in let n = named ys l in absurd (omega arith)
    at (inr l) (inl y) = let zero_is : head_word seats ys ≡ 0 = ap (head_word seats) y in let n = named xs l in absurd (omega arith)
    at (inr l) (inr m) =
        let cut_x : l.before ++ l.last ∷ ([] ++ f.rest) ≡ chain = cut_longer l.before l.last [] xs f.rest chain l.is f.is in
        let cut_y : m.before ++ m.last ∷ ([] ++ g.rest) ≡ chain = cut_longer m.before m.last [] ys g.rest chain m.is g.is in
        let n = named xs l in
        let o = named ys m in
        let cells : cell_of seats l.before l.last ≡ cell_of seats m.before m.last = omega arith in
        let before : l.before ≡ m.before = one_place l.before l.last ([] ++ f.rest) m.before m.last ([] ++ g.rest) cut_x cut_y cells in
        let cut_y' : l.before ++ m.last ∷ g.rest ≡ chain = subst (λ b. b ++ m.last ∷ g.rest ≡ chain) (sym before) cut_y in
        let last : l.last ≡ m.last = next_is l.before l.last m.last f.rest g.rest chain cut_x cut_y' in
        sym l.is ∙ ((λ k. before k ++ last k ∷ []) ∙ m.is)

pub fits_prefix : (seats per_seat : ℕ) (xs ys : List Entry) → IsPrefix xs ys → FitsRow seats per_seat ys → FitsRow seats per_seat xs
fits_prefix seats per_seat xs ys f fits before e after cut = fits before e (after ++ f.rest) (cut_longer before e after xs f.rest ys cut f.is)

pub fits_push : (seats per_seat : ℕ) (chain : List Entry) (e : Entry) → FitsRow seats per_seat chain → e.seat < seats → entry_count e.seat chain < per_seat → FitsRow seats per_seat (chain ++ e ∷ [])
fits_push seats per_seat chain e fits below room before f after cut = elim (cut_push before f after chain e cut) [
  | inl last ↦
      subst (λ b. (f.seat < seats) × (entry_count f.seat b < per_seat)) (sym last.0)
      (subst (λ (x : Entry). (x.seat < seats) × (entry_count x.seat chain < per_seat)) (sym last.1) (below, room))
  | inr older ↦ fits before f older.0 older.1
]

pub entry_count_push : (e : Entry) (chain : List Entry) → entry_count e.seat (chain ++ e ∷ []) ≡ entry_count e.seat chain + 1
entry_count_push e chain = entry_count-append e.seat chain (e ∷ []) ∙ ap (λ n. entry_count e.seat chain + n) (entry_count-self e [])
