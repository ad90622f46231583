-- A trail, popped and pushed.
use Rattle.camp_row.proofs.Words.{◌≡◌, ◌≢◌, ℕ, ◌+◌, ◌-◌, ◌<◌, List, [], ◌∷◌, ◌++◌, length, sym, refl, ap, ◌∙◌, subst, inl, inr, arith, length-append, same_from_push, append-nil, append_assoc, length_push, TableId, Entry, PassInside, RowInside, IsPrefix, cell_of, head_word, IsSound, PassState, IsNextEntry, IsTrail, RowId, IsOnChain, cells_back, Part, known_of, IsSoundPart, part, IsPass}
use Rattle.camp_row.proofs.Cells.{next_is_others, head_word-push, same_prefix, last_cases}
pub use Rattle.camp_row.proofs.PassOfRow.{Held, IsOf, cut_longer, cut_pushed, found_pass, held, is_of, no_cut, finds_same_chain, walks_in}

pub trail_none : (seats : ℕ) (before left : List Entry) → cells_back seats before left ≡ [] → left ≡ []
trail_none seats before [] e = refl
trail_none seats before (x ∷ left) e = absurd (no_cut (cells_back seats (before ++ x ∷ []) left) (cell_of seats before x) [] e)

-- the entry on top of a trail
pub record OnTop (known : PassState) (rest : List ℕ) (cell : ℕ) : Type 0 where
  pub entry : Entry
  pub later : List Entry
  pub is : known.seen ++ entry ∷ later ≡ known.ahead
  pub cell_is : cell ≡ cell_of known.row.seats known.seen entry
  pub rest_is : rest ≡ cells_back known.row.seats (known.seen ++ entry ∷ []) later

pub on_top : {known : PassState} {trail items rest : List ℕ} {cell : ℕ} → items ≡ trail → items ≡ rest ++ cell ∷ [] → IsTrail known known.seen trail → OnTop known rest cell
on_top {known} {rest = rest} {cell} trail_is items_are leads = at leads.left leads.is (sym items_are ∙ trail_is ∙ leads.cells) where
  at : (left : List Entry) → known.seen ++ left ≡ known.ahead → rest ++ cell ∷ [] ≡ cells_back known.row.seats known.seen left → OnTop known rest cell
  at [] is cells = absurd (no_cut rest cell [] cells)
  at (e ∷ later) is cells =
      let parts = same_from_push rest (cells_back known.row.seats (known.seen ++ e ∷ []) later) cell (cell_of known.row.seats known.seen e) cells in
      record { entry = e; later = later; is = is; cell_is = parts.1; rest_is = parts.0 }

abbrev pub top_is_on_chain : {known : PassState} {rest : List ℕ} {cell : ℕ} → OnTop known rest cell → IsOnChain known cell
top_is_on_chain {known} top = record { before = known.seen; entry = top.entry; later = top.later; is = top.is; cell_is = top.cell_is }

-- it is the next entry, and the rest of the trail continues after it
pub is_next_entry : {known : PassState} {row : RowId} {rest : List ℕ} {cell : ℕ} {e : Entry} (top : OnTop known rest cell) → e ≡ top.entry → IsSound known → known.row ≡ row → e.seat < row.seats
    → IsNextEntry known (record { entry = e; cell = cell }) × IsTrail known (known.seen ++ e ∷ []) rest
is_next_entry {known} {row} {rest} {cell} {e} top e_is sound row_is below = (
  record {
    later = top.later;
    is = ap (λ (x : Entry). known.seen ++ x ∷ top.later) e_is ∙ top.is;
    cell = top.cell_is ∙ ap (cell_of known.row.seats known.seen) (sym e_is);
    other = subst (λ (x : Entry). x.seat ≢ known.number) (sym e_is) (next_is_others known.number known.seen top.entry top.later known.ahead top.is sound.own_seen);
    seat_below = subst (λ (r : RowId). e.seat < r.seats) (sym row_is) below;
  },
  subst (λ (x : Entry). IsTrail known (known.seen ++ x ∷ []) rest) (sym e_is) (record { left = top.later; is = cut_pushed known.seen top.later top.entry ∙ top.is; cells = top.rest_is }),
)

-- a walk that has reached a prefix of the chain, with the cells after it on the stack
pub record WalksBack (part : Part) (word : ℕ) (stack : List ℕ) : Type 0 where
  pub mid : List Entry
  pub rest : List Entry
  pub split : (part.seen ++ mid) ++ rest ≡ part.ahead
  pub named : word ≡ head_word part.seats (part.seen ++ mid)
  pub cells : stack ≡ cells_back part.seats (part.seen ++ mid) rest

pub walks_back_first : (p : Part) (word : ℕ) (stack : List ℕ) → word ≡ head_word p.seats p.ahead → stack ≡ [] → IsPrefix p.seen p.ahead → WalksBack p word stack
walks_back_first p word stack word_is none prefix = record {
  mid = prefix.rest;
  rest = [];
  split = append-nil (p.seen ++ prefix.rest) ∙ prefix.is;
  named = word_is ∙ ap (head_word p.seats) (sym prefix.is);
  cells = none;
}

pub length-cells_back : (seats : ℕ) (before left : List Entry) → length (cells_back seats before left) ≡ length left
length-cells_back seats before [] = refl
length-cells_back seats before (e ∷ left) = let more = length_push (cells_back seats (before ++ e ∷ []) left) (cell_of seats before e) in let rest = length-cells_back seats (before ++ e ∷ []) left in omega arith

-- the cell that the walk has reached, while it is past what was seen
pub record Above (pass : PassInside) (row : RowInside) (word : ℕ) (stack : List ℕ) : Type 0 where
  pub mid : List Entry
  pub entry : Entry
  pub rest : List Entry
  pub cut : ((part pass).seen ++ mid) ++ entry ∷ rest ≡ (part pass).ahead
  pub some_cell : 0 < word
  pub held : Held pass row ((part pass).seen ++ mid) entry (word - 1)
  pub cells : stack ≡ cells_back (part pass).seats (((part pass).seen ++ mid) ++ entry ∷ []) rest
  pub few : length stack < length (part pass).ahead

pub above : {pass : PassInside} {row : RowInside} {word : ℕ} {stack : List ℕ} → IsOf pass row → IsPass pass (part pass) → WalksBack (part pass) word stack → word ≢ pass.last → Above pass row word stack
above {pass} {row} {word} {stack} of is walks_back differs =
    let p : Part = part pass in
    elim (last_cases walks_back.mid) [
      | inl none ↦ absurd (differs (walks_back.named ∙ (ap (head_word p.seats) (ap (λ m. p.seen ++ m) none ∙ append-nil p.seen) ∙ sym is.last)))
      | inr some ↦
          let before : List Entry = p.seen ++ some.before in
          let split : before ++ some.last ∷ [] ≡ p.seen ++ walks_back.mid = append_assoc p.seen some.before (some.last ∷ []) ∙ ap (λ m. p.seen ++ m) some.is in
          let cut : before ++ some.last ∷ walks_back.rest ≡ p.ahead = cut_longer before some.last [] (p.seen ++ walks_back.mid) walks_back.rest p.ahead split walks_back.split in
          let cells : stack ≡ cells_back p.seats (before ++ some.last ∷ []) walks_back.rest = walks_back.cells ∙ ap (λ b. cells_back p.seats b walks_back.rest) (sym split) in
          let long : length (before ++ some.last ∷ walks_back.rest) ≡ length p.ahead = ap length cut in
          let parts = length-append before (some.last ∷ walks_back.rest) in
          let stack_long : length stack ≡ length walks_back.rest = ap length cells ∙ length-cells_back p.seats (before ++ some.last ∷ []) walks_back.rest in
          let word_is : word ≡ cell_of p.seats before some.last + 1 = walks_back.named ∙ (ap (head_word p.seats) (sym split) ∙ head_word-push p.seats before some.last) in
          record { mid = some.before; entry = some.last; rest = walks_back.rest; cut = cut; some_cell = omega arith; held = held walks_back.rest of is.sound cut (omega arith); cells = cells; few = omega arith }
    ]

pub walks_back_on : {pass : PassInside} {row : RowInside} {word found : ℕ} {stack : List ℕ} (a : Above pass row word stack) → found ≡ head_word (part pass).seats ((part pass).seen ++ a.mid)
    → WalksBack (part pass) found (stack ++ (word - 1) ∷ [])
walks_back_on a found_is = record { mid = a.mid; rest = a.entry ∷ a.rest; split = a.cut; named = found_is; cells = λ k. a.cells k ++ a.held.is k ∷ [] }

module _ (p : Part) (word : ℕ) (stack : List ℕ) (sound : IsSoundPart p) (walks_back : WalksBack p word stack) where
  pub walks_back_last : word ≡ head_word p.seats p.seen → (table : TableId) → IsTrail (known_of table p) p.seen stack
  walks_back_last word_is table =
      let prefix : IsPrefix (p.seen ++ walks_back.mid) p.ahead = record { rest = walks_back.rest; is = walks_back.split } in
      let same : p.seen ++ walks_back.mid ≡ p.seen = same_prefix p.seats p.per_seat p.ahead sound.fits (p.seen ++ walks_back.mid) p.seen prefix sound.prefix (sym walks_back.named ∙ word_is) in record {
        left = walks_back.rest;
        is = ap (λ s. s ++ walks_back.rest) (sym same) ∙ walks_back.split;
        cells = walks_back.cells ∙ ap (λ b. cells_back p.seats b walks_back.rest) same;
      }
