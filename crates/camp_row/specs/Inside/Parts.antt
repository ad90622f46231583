-- What one seat knows of the row, as a `Part`, which the invariant of the table speaks of. A view of the table is a
-- list of parts.
use Rattle.std.specs.Prelude.{◌≡◌, ℕ, List, [], slice_index_or, map, count_by, ◌==◌}
use Rattle.std.specs.List.{range_with_len}
use Rattle.atomic_table.specs.Seated.{TableId}
use Rattle.camp_row.specs.declared.entries.Entry.{Entry}
use Rattle.camp_row.specs.Chains.{IsPrefix, own_entries, FitsRow}
use Rattle.camp_row.specs.PassState.{PassState}

-- what one seat knows: the sizes of the row, its number, the entries that it has seen, the chain that it last found, and
-- the two words of its next cell
pub record Part : Type 0 where
  pub seats : ℕ
  pub per_seat : ℕ
  pub number : ℕ
  pub seen : List Entry
  pub ahead : List Entry
  pub parent : ℕ
  pub index : ℕ

-- a seat that has seen nothing
abbrev pub fresh : ℕ → ℕ → ℕ → Part
fresh seats per_seat number =
    record { seats = seats; per_seat = per_seat; number = number; seen = []; ahead = []; parent = 0; index = 0 }

-- the parts of all seats of a new row
abbrev pub all_fresh : ℕ → ℕ → List Part
all_fresh seats per_seat = map (fresh seats per_seat) (range_with_len 0 seats)

-- the part of a seat in a view of that seat alone
abbrev pub part_of : List Part → Part
part_of parts = slice_index_or parts 0 (fresh 0 0 0)

-- the number of parts of a view that belong to the seat with this number
abbrev pub parts_of : ℕ → List Part → ℕ
parts_of number parts = count_by (λ (part : Part). part.number == number) parts

-- the state of a pass in this table, given the part of its seat
abbrev pub known_of : TableId → Part → PassState
known_of table part = record {
  row = record { table = table; seats = part.seats; per_seat = part.per_seat };
  number = part.number;
  seen = part.seen;
  ahead = part.ahead;
  parent = part.parent;
  index = part.index;
}

-- the part of a seat after it found this chain
abbrev pub finds : List Entry → Part → Part
finds chain part = record part { ahead = chain }

-- the invariant of a part: the seat has seen a prefix of the chain that it found; all its own entries of that chain are
-- in the prefix; and the chain fits the row
pub record IsSoundPart (part : Part) : Type 0 where
  pub prefix : IsPrefix part.seen part.ahead
  pub own_seen : own_entries part.number part.ahead ≡ own_entries part.number part.seen
  pub fits : FitsRow part.seats part.per_seat part.ahead
