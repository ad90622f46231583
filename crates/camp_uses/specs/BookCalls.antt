-- What the owner of a book can conclude from a reply.
use Rattle.std.specs.Prelude.{◌≡◌, ℕ, [], ◌∷◌, ◌++◌, length, Result, Ok, Err}
use Rattle.camp_call.specs.declared.calls.Call.{Call}
use Rattle.camp_call.specs.declared.replies.Reply.{Reply}
use Rattle.camp_call.specs.declared.replies.Reply.TheVariants.{Done}
use Rattle.camp_object.specs.Books.{Booked}
use Rattle.camp_object.specs.declared.faults.Fault.{Fault}
use Rattle.camp_object.specs.declared.faults.Fault.TheVariants.{Memory}
use Rattle.camp_repo.specs.States.{Contents}

-- a book with one more call
abbrev pub booked_call : Booked Contents Call → ℕ → Call → Booked Contents Call
booked_call book seat call = record { first = book.first; calls = book.calls ++ (seat, call) ∷ [] }

-- a call whose reply has a number is in the book under that number; after a refusal, an answer to a question and out of
-- memory the book is unchanged; there is no other fault
abbrev pub Leaves : ℕ → Booked Contents Call → Call → Result Reply Fault → Booked Contents Call → Type 0
Leaves seat old call (Ok (Done at)) new = (at ≡ length new.calls) × (new ≡ booked_call old seat call)
Leaves seat old call (Ok other) new = new ≡ old
Leaves seat old call (Err Memory) new = new ≡ old
Leaves seat old call (Err other) new = ⊥
