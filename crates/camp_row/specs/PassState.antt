-- Rows, passes to them, and walks back along their chains, as contracts see them.
use Rattle.std.specs.Prelude.{◌≡◌, ◌≢◌, ◌⊎◌, ℕ, ◌<◌, List, [], ◌∷◌, ◌++◌}
use Rattle.atomic_table.specs.Seated.{TableId}
use Rattle.camp_row.specs.declared.entries.Entry.{Entry}
use Rattle.camp_row.specs.declared.trails.Next.{Next}
use Rattle.camp_row.specs.Chains.{IsPrefix, IsProperPrefix, own_entries, cell_of, head_word}

-- the most seats of a row
abbrev pub most_seats : ℕ
most_seats = 64

-- the most cells of a seat
abbrev pub most_cells : ℕ
most_cells = 65_536

-- a row: its identity, the number of seats, and the number of cells of each seat
pub record RowId : Type 0 where
  pub table : TableId
  pub seats : ℕ
  pub per_seat : ℕ

-- what a pass knows: its row and its seat's number, the entries that it has seen (read one by one), the chain that it
-- last found (as it was when the pass last read its end), and the two words of its seat's next cell
pub record PassState : Type 0 where
  pub row : RowId
  pub number : ℕ
  pub seen : List Entry
  pub ahead : List Entry
  pub parent : ℕ
  pub index : ℕ

-- a pass that has seen nothing
abbrev pub new_pass : RowId → ℕ → PassState
new_pass row number = record { row = row; number = number; seen = []; ahead = []; parent = 0; index = 0 }

-- the invariant of a pass: what it has seen is a prefix of the chain that it found, and all its seat's entries there
-- are in that prefix
pub record IsSound (known : PassState) : Type 0 where
  pub prefix : IsPrefix known.seen known.ahead
  pub own_seen : own_entries known.number known.ahead ≡ own_entries known.number known.seen

-- the pass finds the chain as it is now: the chain has only grown, begins with what the pass has seen, and has no new
-- entry of the pass's seat
pub record FindsChain (old new : PassState) : Type 0 where
  pub is : new ≡ record old { ahead = new.ahead }
  pub grows : IsPrefix old.ahead new.ahead
  pub sound : IsSound new

-- the cells of the entries of a chain after the prefix `before`, newest first
abbrev pub cells_back : ℕ → List Entry → List Entry → List ℕ
cells_back seats before [] = []
cells_back seats before (entry ∷ later) =
    cells_back seats (before ++ entry ∷ []) later ++ cell_of seats before entry ∷ []

-- the trail leads from what the pass has seen to the end of the chain that it found: it has the cells between, the
-- oldest on top
pub record IsTrail (known : PassState) (seen : List Entry) (trail : List ℕ) : Type 0 where
  pub left : List Entry
  pub is : seen ++ left ≡ known.ahead
  pub cells : trail ≡ cells_back known.row.seats seen left

-- the cell belongs to an entry of the chain that the pass found
pub record IsOnChain (known : PassState) (cell : ℕ) : Type 0 where
  pub before : List Entry
  pub entry : Entry
  pub later : List Entry
  pub is : before ++ entry ∷ later ≡ known.ahead
  pub cell_is : cell ≡ cell_of known.row.seats before entry

-- the entry is the next one in the chain that the pass found, and is of a seat of the row
pub record IsNextEntry (known : PassState) (next : Next) : Type 0 where
  pub later : List Entry
  pub is : known.seen ++ next.entry ∷ later ≡ known.ahead
  pub cell : next.cell ≡ cell_of known.row.seats known.seen next.entry
  pub other : next.entry.seat ≢ known.number
  pub seat_below : next.entry.seat < known.row.seats

-- the draft names the last cell that was seen as its parent
abbrev pub IsDrafted : PassState → Type 0
IsDrafted known = known.parent ≡ head_word known.row.seats known.seen

-- the pass after its seat's next cell was drafted with this index
abbrev pub with_draft : PassState → ℕ → PassState
with_draft known index = record known { parent = head_word known.row.seats known.seen; index = index }

-- the entry that the seat's next cell becomes when it is published
abbrev pub drafted : PassState → Entry
drafted known = record { seat = known.number; index = known.index }

-- the pass after its seat's next cell was published as the last of the chain
abbrev pub won : PassState → PassState
won known =
    let entries = known.seen ++ drafted known ∷ [] in
    record known { seen = entries; ahead = entries; parent = 0; index = 0 }

-- a compare-exchange that succeeded: the chain was exactly what the pass has seen; the drafted cell is now its last,
-- and the pass has seen it
pub record Won (old new : PassState) : Type 0 where
  pub whole : old.ahead ≡ old.seen
  pub is : new ≡ won old

-- a compare-exchange that failed: the chain was longer than what the pass has seen; the pass has now found that chain
pub record Lost (old new : PassState) : Type 0 where
  pub is : new ≡ record old { ahead = new.ahead }
  pub grows : IsPrefix old.ahead new.ahead
  pub sound : IsSound new
  pub longer : IsProperPrefix old.seen new.ahead

-- of what two passes have seen, one is a prefix of the other
abbrev pub OneIsPrefix : PassState → PassState → Type 0
OneIsPrefix a b = (IsPrefix a.seen b.seen) ⊎ (IsPrefix b.seen a.seen)
