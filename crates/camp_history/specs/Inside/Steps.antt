-- The steps of a seat on the way to an answer.
use Rattle.std.specs.Prelude.{◌≡◌, ℕ, ◌<◌, List, [], ◌∷◌, ◌++◌, map, length, Option, None, Some, Result, Ok, Err}
use Rattle.camp_object.specs.Objects.{Sequential}
use Rattle.camp_object.specs.Histories.{IsBeginning, replay, IsAccepted, own}
use Rattle.camp_object.specs.Deciding.{Decides}
use Rattle.camp_object.specs.Asking.{Ask}
use Rattle.camp_object.specs.declared.faults.Fault.{Fault}
use Rattle.camp_object.specs.declared.objects.Decided.{Decided}
use Rattle.camp_object.specs.declared.objects.Decided.TheVariants.{Next, Answer}
use Rattle.camp_row.specs.Chains.{IsProperPrefix}
use Rattle.camp_row.specs.declared.entries.Entry.{Entry}
use Rattle.boxcar.specs.Table.{Where}
use Rattle.camp_history.specs.Seats.{HeadId, SeatState, IsSeatOf, entry_of, history_of, caller_at}
use Rattle.camp_history.specs.declared.marks.Mark.{Mark}

-- the entries of the row for a seat's marks
abbrev pub seen_entries : {State Call : Type 0} → SeatState State Call → List Entry
seen_entries seat = map entry_of seat.marks

-- the decision of an object on a call, at the replay of a history
pub record DecidesAt {State Call Reply : Type 0} (object : Sequential State Call Reply) (history : List (ℕ × Call))
    (call : Call) (decided : Decided State Reply) : Type 0 where
  pub state : State
  pub replays : replay object history ≡ Some state
  pub decides : Decides object state call decided

-- the decision of a head on a call, after the calls that a seat has seen: the next state if the call is accepted and
-- the seat has a cell left for it; else an answer
abbrev pub HeadDecision : {State Call Reply : Type 0} → Sequential State Call Reply → HeadId State → SeatState State Call → Call
    → Result (Decided State Reply) Fault → Type 0
HeadDecision object head seat call (Ok (Next next)) =
    (length (own seat.known.number (history_of seat)) < head.row.per_seat)
    × DecidesAt object (history_of seat) call (Next next)
HeadDecision object head seat call (Ok (Answer reply)) =
    Ask object (caller_at head seat) (history_of seat) call (Ok reply) (history_of seat)
HeadDecision object head seat call (Err fault) =
    Ask object (caller_at head seat) (history_of seat) call (Err fault) (history_of seat)

-- a seat after it has seen one more call
abbrev pub with_mark : {State Call : Type 0} → SeatState State Call → Mark Call → SeatState State Call
with_mark seat mark = record {
  first = seat.first;
  known = record seat.known { seen = seat.known.seen ++ entry_of mark ∷ [] };
  marks = seat.marks ++ mark ∷ [];
  bases = seat.bases;
}

-- a seat sees more calls, none of which is its own; it stays the same seat of the same row
pub record SeesMore {State Call : Type 0} (old new : SeatState State Call) : Type 0 where
  pub number : new.known.number ≡ old.known.number
  pub row : new.known.row ≡ old.known.row
  pub more : IsBeginning (history_of old) (history_of new)
  pub own_stays : own old.known.number (history_of new) ≡ own old.known.number (history_of old)

-- a seat of a head sees more of the chain that it has found
pub record SeesFurther {State Call : Type 0} (head : HeadId State) (old new : SeatState State Call) : Type 0 where
  pub of : IsSeatOf head new
  pub more : SeesMore old new
  pub ahead : new.known.ahead ≡ old.known.ahead

-- a seat published its call, which is now the last that it has seen
pub record Publishes {State Call : Type 0} (old : SeatState State Call) (call : Where Call) (new : SeatState State Call) : Type 0 where
  pub first : new.first ≡ old.first
  pub number : new.known.number ≡ old.known.number
  pub row : new.known.row ≡ old.known.row
  pub marks : new.marks ≡ old.marks ++ record { seat = old.known.number; call = call } ∷ []
  pub bases : new.bases ≡ old.bases

-- a compare-exchange was lost: the chain was longer than what the seat had seen; the seat has now found that chain
pub record FindsMore {State Call : Type 0} (old new : SeatState State Call) : Type 0 where
  pub first : new.first ≡ old.first
  pub number : new.known.number ≡ old.known.number
  pub row : new.known.row ≡ old.known.row
  pub marks : new.marks ≡ old.marks
  pub bases : new.bases ≡ old.bases
  pub longer : IsProperPrefix (seen_entries new) new.known.ahead

-- a compare-exchange was lost although the call would have been accepted after the history that the seat had seen
pub record LosesOne {State Call Reply : Type 0} (object : Sequential State Call Reply) (head : HeadId State)
    (old : SeatState State Call) (call : Call) (new : SeatState State Call) : Type 0 where
  pub has_room : length (own old.known.number (history_of old)) < head.row.per_seat
  pub accepted : IsAccepted object (history_of old) call
  pub finds : FindsMore old new

-- one attempt at a call: it gives an answer, or none if its compare-exchange was lost
abbrev pub Attempts : {State Call Reply : Type 0} → Sequential State Call Reply → HeadId State → SeatState State Call → Call
    → Result (Option Reply) Fault → SeatState State Call → Type 0
Attempts object head old call (Ok (Some reply)) new =
    Ask object (caller_at head old) (history_of old) call (Ok reply) (history_of new)
Attempts object head old call (Ok None) new = LosesOne object head old call new
Attempts object head old call (Err fault) new =
    Ask object (caller_at head old) (history_of old) call (Err fault) (history_of new)
