-- A new head and its seats.
use Rattle.std.specs.Prelude.{◌≡◌, ℕ, ◌≤◌, List, map, All, Result, Ok, Err}
use Rattle.std.specs.List.{range_with_len}
use Rattle.camp_row.specs.PassState.{most_cells, most_seats, new_pass}
use Rattle.camp_history.specs.Seats.{HeadId, SeatState, calls_per_seat, unseen, IsSeatOf}
use Rattle.camp_history.specs.declared.faults.HeadFault.{HeadFault}
use Rattle.camp_history.specs.declared.faults.HeadFault.TheVariants.{BadSize, Memory}

-- the most accepted calls of a seat: each has a cell of its own
abbrev pub most_calls : ℕ
most_calls = most_cells

-- the most lost compare-exchanges of a call
abbrev pub most_tries : ℕ
most_tries = 1_000

-- the greatest distance between the positions of snapshots
abbrev pub most_between_snapshots : ℕ
most_between_snapshots = 4_096

-- the parameters of a head are in range
pub record AreHeadSizes (seats per_seat tries every : ℕ) : Type 0 where
  pub some_seats : (1 ≤ seats) × (seats ≤ most_seats)
  pub some_calls : (1 ≤ per_seat) × (per_seat ≤ most_calls)
  pub some_tries : (1 ≤ tries) × (tries ≤ most_tries)
  pub snapshots : every ≤ most_between_snapshots

-- the seat with this number, which has seen nothing
abbrev pub seat_at : {State Call : Type 0} → HeadId State → ℕ → SeatState State Call
seat_at head number = unseen head.first (new_pass head.row number)

-- a new head with these parameters, whose history begins with this state, and its seats, numbered from 0, which have
-- seen nothing
pub record IsOpened {State Call : Type 0} (first : State) (seats per_seat tries : ℕ) (head : HeadId State) (made : List (SeatState State Call))
    : Type 0 where
  pub begins_with : head.first ≡ first
  pub has_seats : head.row.seats ≡ seats
  pub has_calls : calls_per_seat head ≡ per_seat
  pub has_tries : head.tries ≡ tries
  pub all : made ≡ map (seat_at head) (range_with_len 0 seats)
  pub are_seats : All (IsSeatOf head) made

-- making a head fails with `BadSize` exactly if one of the parameters is out of its range; else it succeeds, or memory
-- runs out
abbrev pub Opens : {Made State Call : Type 0} → State → (Made → HeadId State) → (Made → List (SeatState State Call)) →
    (seats per_seat tries every : ℕ)
    → Result Made HeadFault → Type 0
Opens first head all seats per_seat tries every (Ok made) =
    AreHeadSizes seats per_seat tries every × IsOpened first seats per_seat tries (head made) (all made)
Opens first head all seats per_seat tries every (Err BadSize) = ¬ (AreHeadSizes seats per_seat tries every)
Opens first head all seats per_seat tries every (Err Memory) = AreHeadSizes seats per_seat tries every
