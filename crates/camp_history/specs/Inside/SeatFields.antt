-- A seat in its fields: what contracts see of it, and its invariant.
use Rattle.std.specs.Prelude.{◌≡◌, ◌<◌, ◌≤◌, ◌++◌, List, length, map, All, Some}
use Rattle.camp_object.specs.Objects.{Sequential, IsFirst, begun}
use Rattle.camp_object.specs.Histories.{replay}
use Rattle.camp_history.specs.Seats.{SeatState, seat_and_call, entry_of, most_listed}
use Rattle.camp_history.specs.Snapshots.{IsMarkPrefix, bases_in}
use Rattle.camp_history.specs.declared.marks.Mark.{Mark}
use Rattle.camp_history.specs.declared.seats.Seat.TheInside.{Inside}

-- the marks of all calls that a seat has seen
abbrev pub marks_in : {State Call Reply : Type 0} → Inside State Call Reply → List (Mark Call)
marks_in seat = seat.earlier ++ seat.tail.items

-- a seat as contracts see it; the initial state of its history is read from its current state
abbrev pub seat_state : {State Call Reply : Type 0} → Sequential State Call Reply → Inside State Call Reply → SeatState State Call
seat_state object seat = record {
  first = object.first seat.state;
  known = seat.pass;
  marks = marks_in seat;
  bases = bases_in seat.bases.items;
}

-- the invariant of a seat: it has a mark for each entry that its pass has seen, each of a seat of the row; its state is
-- the replay of their calls; and its marks begin with those of each snapshot that it noted
pub record IsSeat {State Call Reply : Type 0} (object : Sequential State Call Reply) (seat : Inside State Call Reply)
    : Type 0 where
  pub entries_are : map entry_of (marks_in seat) ≡ seat.pass.seen
  pub below : All (λ mark. mark.seat < seat.pass.row.seats) (marks_in seat)
  pub is_first : IsFirst object (object.first seat.state)
  pub replays : replay (begun object (object.first seat.state)) (map seat_and_call (marks_in seat)) ≡ Some seat.state
  pub begins : All (λ base. IsMarkPrefix base.marks (marks_in seat)) (bases_in seat.bases.items)
  pub few : length seat.earlier ≤ most_listed
