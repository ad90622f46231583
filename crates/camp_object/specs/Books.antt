-- Books: the initial state of a history, and its accepted calls.
use Rattle.std.specs.Prelude.{◌≡◌, ℕ, List, [], Option, Result}
use Rattle.camp_object.specs.Asking.{Ask, alone_at}
use Rattle.camp_object.specs.Histories.{IsBeginning, replay}
use Rattle.camp_object.specs.Objects.{Sequential, begun}
use Rattle.camp_object.specs.declared.faults.Fault.{Fault}

-- the contents of a book: the initial state of its history, and the accepted calls, each with its seat
pub record Booked (State Call : Type 0) : Type 0 where
  pub first : State
  pub calls : List (ℕ × Call)

-- a book without calls
abbrev pub new_book : {State Call : Type 0} → State → Booked State Call
new_book first = record { first = first; calls = [] }

-- a book is an earlier state of another one: both have the same initial state, and its calls are the first ones of the
-- other
pub record IsEarlier {State Call : Type 0} (book later : Booked State Call) : Type 0 where
  pub first : later.first ≡ book.first
  pub calls : IsBeginning book.calls later.calls

module _ {State Call Reply : Type 0} (object : Sequential State Call Reply) where
  -- the state that the calls of a book lead to from its initial state
  abbrev pub replay_book : Booked State Call → Option State
  replay_book book = replay (begun object book.first) book.calls

  -- a call is executed on a book while nobody else adds to the history; the initial state stays
  pub record AsksBook (seat : ℕ) (old : Booked State Call) (call : Call) (answer : Result Reply Fault) (new : Booked State Call) : Type 0 where
    pub first : new.first ≡ old.first
    pub asks : Ask (begun object old.first) (alone_at seat) old.calls call answer new.calls
