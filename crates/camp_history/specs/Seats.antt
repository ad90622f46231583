-- Heads and seats as contracts see them.
use Rattle.std.specs.Prelude.{◌≡◌, ℕ, false, List, [], map, slice_index_or, All}
use Rattle.boxcar.specs.Table.{Shelves, Shows}
use Rattle.camp_object.specs.Asking.{Caller}
use Rattle.camp_row.specs.PassState.{RowId, PassState}
use Rattle.camp_row.specs.declared.entries.Entry.{Entry}
use Rattle.camp_history.specs.declared.marks.Mark.{Mark}

-- what stays the same of a head: its row, its store of calls, its slots for snapshots, the number of compare-exchanges
-- that a call may lose, and the initial state of its history
pub record HeadId (State : Type 0) : Type 0 where
  pub row : RowId
  pub store : Shelves
  pub slots : List ℕ
  pub tries : ℕ
  pub first : State

-- a snapshot in a slot: the slot's index and unique number, and the marks of the snapshot
pub record Based (Call : Type 0) : Type 0 where
  pub slot : ℕ
  pub id : ℕ
  pub marks : List (Mark Call)

-- the slot has this index
abbrev pub IsBaseAt : {Call : Type 0} → List ℕ → Based Call → Type 0
IsBaseAt ids base = base.id ≡ slice_index_or ids base.slot 0

-- a seat: the initial state of its history, what its pass knows of the row, a mark for each call that it has seen, in
-- order, and the snapshots that it noted; its calls begin with those of each of them
pub record SeatState (State Call : Type 0) : Type 0 where
  pub first : State
  pub known : PassState
  pub marks : List (Mark Call)
  pub bases : List (Based Call)

-- a seat that has seen nothing, with this initial state and this pass
abbrev pub unseen : {State Call : Type 0} → State → PassState → SeatState State Call
unseen first known = record { first = first; known = known; marks = []; bases = [] }

-- the entry of the row that a mark stands for
abbrev pub entry_of : {Call : Type 0} → Mark Call → Entry
entry_of mark = record { seat = mark.seat; index = mark.call.index }

-- the entry and the call that a mark stands for
abbrev pub entry_and_call : {Call : Type 0} → Mark Call → Entry × Call
entry_and_call mark = (entry_of mark, mark.call.value)

-- the most marks in a reference counted list; no history of a head has more calls
abbrev pub most_listed : ℕ
most_listed = 4_194_304

-- a call of the history, and the seat that asked it
abbrev pub seat_and_call : {Call : Type 0} → Mark Call → ℕ × Call
seat_and_call mark = (mark.seat, mark.call.value)

-- the history of the calls that a seat has seen
abbrev pub history_of : {State Call : Type 0} → SeatState State Call → List (ℕ × Call)
history_of seat = map seat_and_call seat.marks

-- the seat is one of this head: its history has the head's initial state, its pass is to the head's row, its calls are
-- in the head's store, and its snapshots in the head's slots
pub record IsSeatOf {State Call : Type 0} (head : HeadId State) (seat : SeatState State Call) : Type 0 where
  pub first : seat.first ≡ head.first
  pub row : seat.known.row ≡ head.row
  pub stored : All (λ mark. Shows head.store mark.call) seat.marks
  pub bases : All (IsBaseAt head.slots) seat.bases

-- the number of seats of a head
abbrev pub seats_of : {State : Type 0} → HeadId State → ℕ
seats_of head = head.row.seats

-- the most accepted calls of each seat of a head
abbrev pub calls_per_seat : {State : Type 0} → HeadId State → ℕ
calls_per_seat head = head.row.per_seat

-- the number of a seat, from 0
abbrev pub seat_number : {State Call : Type 0} → SeatState State Call → ℕ
seat_number seat = seat.known.number

-- the number of seats of the seat's head
abbrev pub seat_count : {State Call : Type 0} → SeatState State Call → ℕ
seat_count seat = seat.known.row.seats

-- the most accepted calls of this seat
abbrev pub most_calls_of : {State Call : Type 0} → SeatState State Call → ℕ
most_calls_of seat = seat.known.row.per_seat

-- a seat of a head as a caller: its number, its limit of accepted calls, and how many compare-exchanges its calls may
-- lose; others may add to the history
abbrev pub caller_at : {State Call : Type 0} → HeadId State → SeatState State Call → Caller
caller_at head seat =
    record { seat = seat_number seat; tries = head.tries; per_seat = calls_per_seat head; alone = false }
