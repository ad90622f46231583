-- A pass and its fields, and the row that it is of.
use Rattle.camp_row.proofs.Words.{◌≡◌, ℕ, ◌+◌, ◌*◌, ◌<◌, ◌≤◌, List, [], ◌∷◌, sym, refl, ap, ◌∙◌, subst, arith, row_fits, TableId, Seat, Knowledge, Next, IsProperPrefix, entry_count, cell_of, RowId, PassState, IsNextEntry, Part, part_of, known_of, IsSoundPart, part, known, IsPass, id_of, IsRow, PassInside, RowInside, ◌%◌, ◌++◌, mod-mul-add, Allows, Splits, head_word, finds, LoadedHead, SeatFindsChain, Walked, first_apart, without_first, Entry}
use Rattle.std.proofs.Math.Nat.{mul-le-mul_left}
use Rattle.camp_row.proofs.Drafting.{next_cell, HasRoom}
use Rattle.camp_row.proofs.Splitting.{splits}
pub use Rattle.camp_row.proofs.Prefixes.{cut_longer, cut_pushed, prefix_nil, prefix_refl, prefixes_compare, next_is, no_cut, proper_is_prefix}
use Rattle.camp_row.proofs.Loading.{loads_head, walks}
use Rattle.camp_row.proofs.Ruling.{Owes, Ruled, allows, only, allows_one}

-- the pass is to this row
pub record IsOf (pass : PassInside) (row : RowInside) : Type 0 where
  pub table : pass.seat.table_id ≡ row.table.shared.table_id
  pub seats : (part pass).seats ≡ row.seats
  pub per_seat : (part pass).per_seat ≡ row.per_seat
  pub words : row.table.shared.table_id.words ≡ 1 + 2 * (row.per_seat * row.seats)
  pub few : row.per_seat * row.seats ≤ 4194304

-- the cell is the next one of the pass's seat, which has one left
pub record AtOwn (pass : PassInside) (row : RowInside) (cell : ℕ) : Type 0 where
  pub of : IsOf pass row
  pub own : cell ≡ next_cell (part pass)
  pub below : cell < row.per_seat * row.seats
  pub room : HasRoom (part pass)

module _ (pass : PassInside) (row : RowInside) {k : PassState} {r : RowId} (is : IsRow row) (pass_is : known pass ≡ k) (row_is : id_of row ≡ r) (same : k.row ≡ r) where
  pub is_of : IsOf pass row
  is_of =
      let e : (known pass).row ≡ id_of row = ap (λ (x : PassState). x.row) pass_is ∙ (same ∙ sym row_is) in
      let few : row.per_seat * row.seats ≤ row.per_seat * 64 = mul-le-mul_left row.per_seat is.seats.1 in
      let within = is.per_seat.1 in record {
        table = ap (λ (x : RowId). x.table) e;
        seats = ap (λ (x : RowId). x.seats) e;
        per_seat = ap (λ (x : RowId). x.per_seat) e;
        words = is.words;
        few = omega arith;
      }

  pub at_own : {cell : ℕ} → entry_count k.number k.seen < r.per_seat → cell ≡ entry_count k.number k.seen * r.seats + k.number → cell < r.per_seat * r.seats → AtOwn pass row cell
  at_own {cell} room cell_is below = record {
    of = is_of;
    own = cell_is ∙ (ap (λ (x : RowId). entry_count k.number k.seen * x.seats + k.number) (sym same) ∙ ap (λ (x : PassState). entry_count x.number x.seen * x.row.seats + x.number) (sym pass_is));
    below = subst (λ (x : RowId). cell < x.per_seat * x.seats) (sym row_is) below;
    room = subst (λ (x : PassState). entry_count x.number x.seen < x.row.per_seat) (sym pass_is) (subst (λ (x : RowId). entry_count k.number k.seen < x.per_seat) (sym same) room);
  }

-- the part is the pass's own
pub at_part : (pass : PassInside) (q : Part) → IsPass pass q → IsPass pass (part pass)
at_part pass q is = subst (IsPass pass) (sym (ap part_of is.alone)) is

pub known_at : (table : TableId) (parts : List Part) (q : Part) → parts ≡ q ∷ [] → known_of table (part_of parts) ≡ known_of table q
known_at table parts q alone = ap (λ ps. known_of table (part_of ps)) alone

-- a pass that found the chain
pub found_pass : (pass : PassInside) (seat : Seat (Unit {0}) Knowledge) (found : ℕ) (chain : List Entry) → seat.me.0.parts ≡ finds chain (part pass) ∷ [] → seat.me.1 ≡ [] → SeatFindsChain found chain (part pass)
    → IsPass pass (part pass) → IsPass (record pass { seat = seat; head = found }) (part (record pass { seat = seat; head = found }))
found_pass pass seat found chain alone slots finds_chain is = at_part (record pass { seat = seat; head = found }) (finds chain (part pass)) (record {
  alone = alone;
  no_slot = slots;
  number = is.number;
  published = is.published;
  last = is.last;
  head = finds_chain.named;
  number_below = is.number_below;
  published_within = is.published_within;
  sound = finds_chain.sound;
})

-- the chain that was found before
pub finds_same_chain : (part : Part) {found : ℕ} → found ≡ head_word part.seats part.ahead → IsSoundPart part → SeatFindsChain found part.ahead part
finds_same_chain part named sound = record { named = named; grows = prefix_refl part.ahead; sound = sound }

-- a cell that has an entry of the chain is in the row
pub record Held (pass : PassInside) (row : RowInside) (before : List Entry) (entry : Entry) (cell : ℕ) : Type 0 where
  pub of : IsOf pass row
  pub is : cell ≡ cell_of (part pass).seats before entry
  pub below : cell < row.per_seat * row.seats
  pub seat_is : cell % row.seats ≡ entry.seat
  pub seat_below : entry.seat < (part pass).seats

pub held : {pass : PassInside} {row : RowInside} {before : List Entry} {e : Entry} (later : List Entry) {cell : ℕ} → IsOf pass row → IsSoundPart (part pass) → before ++ e ∷ later ≡ (part pass).ahead
    → cell ≡ cell_of (part pass).seats before e → Held pass row before e cell
held {pass} {row} {before} {e} later {cell} of sound cut is =
    let fits = sound.fits before e later cut in
    let below : e.seat < row.seats = subst (λ s. e.seat < s) of.seats fits.0 in
    let room : entry_count e.seat before < row.per_seat = subst (λ s. entry_count e.seat before < s) of.per_seat fits.1 in
    let cell_is : cell ≡ entry_count e.seat before * row.seats + e.seat = is ∙ ap (λ s. entry_count e.seat before * s + e.seat) of.seats in
    let in_row = row_fits (entry_count e.seat before) row.seats row.per_seat row.seats room (omega arith) in record {
      of = of;
      is = is;
      below = omega arith;
      seat_is = ap (λ x. x % row.seats) cell_is ∙ mod-mul-add (entry_count e.seat before) row.seats e.seat below;
      seat_below = fits.0;
    }

-- the next entry, as the pass's part sees it
pub record IsNextOfPart (pass : PassInside) (row : RowInside) (next : Next) : Type 0 where
  pub shorter : IsProperPrefix (part pass).seen (part pass).ahead
  pub entry : shorter.next ≡ next.entry
  pub held : Held pass row (part pass).seen next.entry next.cell

pub next_of : {pass : PassInside} {row : RowInside} {k : PassState} {next : Next} → IsOf pass row → known pass ≡ k → IsSoundPart (part pass) → IsNextEntry k next → IsNextOfPart pass row next
next_of {pass} {next = next} of same sound comes =
    let n : IsNextEntry (known pass) next = subst (λ x. IsNextEntry x next) (sym same) comes in
    record { shorter = record { next = next.entry; rest = n.later; is = n.is }; entry = refl; held = held n.later of sound n.is n.cell }

-- the obligations of a step of a seat
abbrev pub MaySplit : RowInside → Seat (Unit {0}) Knowledge → Type 0
MaySplit row seat =
    let shared = row.table.shared in
    let view = seat.me.0 in
    (seat.table_id ≡ shared.table_id) × (0 < shared.table_id.words) × Splits (Ruled shared.key.seats shared.key.per_seat) seat.id view (without_first view) (first_apart view)

abbrev pub MayStep : RowInside → Seat (Unit {0}) Knowledge → ℕ → (ℕ → ℕ) → (ℕ → List Part → List Part → Type 0) → Type 0
MayStep row seat i f then =
    let shared = row.table.shared in
    (seat.table_id ≡ shared.table_id) × (i < shared.table_id.words) × Allows (Ruled shared.key.seats shared.key.per_seat) shared.table_id.slots seat.id seat.me i f (λ n m. (m.1 ≡ seat.me.1) × then n seat.me.0.parts m.0.parts)

module _ (row : RowInside) (seat : Seat (Unit {0}) Knowledge) (table : seat.table_id ≡ row.table.shared.table_id) where
  pub splits_in : IsRow row → MaySplit row seat
  splits_in is = let w = is.words in let shared = row.table.shared in (table, omega arith, splits shared.key.seats shared.key.per_seat seat.id seat.me.0)

  pub loads_head_in : IsRow row → MayStep row seat 0 (λ n. n) LoadedHead
  loads_head_in is =
      let w = is.words in
      let shared = row.table.shared in
      (table, omega arith, allows shared.key.seats shared.key.per_seat shared.table_id.slots seat.id seat.me 0 (λ n. n) (λ found w. LoadedHead found seat.me.0.parts w.parts) (loads_head shared.key.seats shared.key.per_seat seat.id seat.me.0))

  pub steps_in : {i : ℕ} (f : ℕ → ℕ) (then : ℕ → List Part → List Part → Type 0) {p : Part} → i < row.table.shared.table_id.words → seat.me.0.parts ≡ p ∷ []
      → Owes row.table.shared.key.seats row.table.shared.key.per_seat seat.id (only p) i f (λ n w. then n (p ∷ []) w.parts) → MayStep row seat i f then
  steps_in {i} f then {p} below alone owes =
      let shared = row.table.shared in
      (table, below, allows_one shared.key.seats shared.key.per_seat shared.table_id.slots seat.id seat.me i f then p alone owes)

  pub walks_in : (i : ℕ) {p : Part} → i < row.table.shared.table_id.words → seat.me.0.parts ≡ p ∷ [] → MayStep row seat i (λ n. n) (Walked i)
  walks_in i {p} below alone = steps_in (λ n. n) (Walked i) below alone (walks row.table.shared.key.seats row.table.shared.key.per_seat seat.id p i)
