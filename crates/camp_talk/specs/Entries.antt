-- The history of a repository.
use Rattle.camp_call.specs.declared.calls.Call.{Call}
use Rattle.camp_object.specs.Books.{Booked}
use Rattle.camp_repo.specs.States.{Contents}

-- the initial state of a repository, and its accepted calls, each with the number of its seat
abbrev pub Entries : Type 0
Entries = Booked Contents Call
