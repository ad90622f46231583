-- Lemmas on a new head and its seats.
use Rattle.camp_clients.proofs.Words.{◌≡◌, ℕ, ◌<◌, List, [], length, get_or, ◌∙◌, ap, zero-add, arith, length-map, range_with_len, HeadId, SeatState, IsSeatOf, history_of}
use Rattle.std.proofs.lemmas.List.FromFn.{get_or-map-range_with_len, length-range_with_len}
use Rattle.camp_history.specs.Opening.{IsOpened, seat_at}

module _ {State Call : Type 0} (first : State) (seats per_seat tries : ℕ) (head : HeadId State) (made : List (SeatState State Call)) (opened : IsOpened first seats per_seat tries head made) where
  pub opened_length : length made ≡ seats
  opened_length = ap length opened.all ∙ length-map (range_with_len 0 seats) (seat_at head) ∙ length-range_with_len 0 seats

  -- a seat of the head, with its number, that has seen nothing
  pub opened_seat : (k : ℕ) (d : SeatState State Call) → k < length made → IsSeatOf head (get_or made k d) × ((get_or made k d).known.number ≡ k) × (history_of (get_or made k d) ≡ [])
  opened_seat k d below =
      let at : get_or made k d ≡ seat_at head k = ap (λ xs. get_or xs k d) opened.all
      ∙ get_or-map-range_with_len (seat_at head) 0 seats k k d (omega (arith, opened_length)) (zero-add k) in
      (opened.are_seats k d below, ap (λ seat. seat.known.number) at, ap history_of at)
