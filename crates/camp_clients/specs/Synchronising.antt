-- Seats that are synchronised with the opening's seat, before and after their threads.
use Rattle.std.specs.Prelude.{◌≡◌, ℕ, ◌+◌, ◌<◌, ◌≤◌, List, [], length, slice_index_or}
use Rattle.camp_object.specs.Histories.{IsBeginning, own}
use Rattle.camp_history.specs.Seats.{HeadId, SeatState, IsSeatOf, history_of, seat_number}

-- a history has all that a seat knows: it begins with the calls that the seat has seen, and has no other call of the
-- seat
pub record HasAllOfSeat {State Call : Type 0} (history : List (ℕ × Call)) (seat : SeatState State Call) : Type 0 where
  pub known : IsBeginning (history_of seat) history
  pub own_known : own (seat_number seat) history ≡ own (seat_number seat) (history_of seat)

module _ {State Call : Type 0} (head : HeadId State) where
  -- new seats, numbered from 1, which have seen nothing
  abbrev pub AreNew : List (SeatState State Call) → Type 0
  AreNew seats = (k : ℕ) (d : SeatState State Call) → k < length seats →
      IsSeatOf head (slice_index_or seats k d) × (seat_number (slice_index_or seats k d) ≡ k + 1)
      × (history_of (slice_index_or seats k d) ≡ [])

  -- a seat was synchronised with another one: it has seen `known`, which is all that the other one had seen, and has no
  -- new call of its own
  pub record IsSynchronised (known : List (ℕ × Call)) (before after : SeatState State Call) : Type 0 where
    pub is_seat : IsSeatOf head after
    pub number : seat_number after ≡ seat_number before
    pub own_stays : own (seat_number before) (history_of after) ≡ own (seat_number before) (history_of before)
    pub knows : IsBeginning known (history_of after)

  -- the calls that a seat has seen are unchanged; at an earlier moment the history had at least `least` calls and
  -- included all that the seat had seen
  pub record WasSynchronised (least : ℕ) (history : List (ℕ × Call)) (before after : SeatState State Call) : Type 0 where
    pub is_seat : IsSeatOf head after
    pub number : seat_number after ≡ seat_number before
    pub seen : history_of after ≡ history_of before
    pub earlier : List (ℕ × Call)
    pub synchronised : HasAllOfSeat earlier before
    pub long : least ≤ length earlier
    pub since : IsBeginning earlier history
