-- A book that is stored as a text and read again.
use Rattle.camp_call.specs.declared.calls.Call.{Call}
use Rattle.camp_object.specs.Books.{Booked}
use Rattle.camp_repo.specs.States.{Contents}
use Rattle.camp_run.specs.StoredTexts.{moved_to_seat_0}

-- a book with all its calls at seat 0
abbrev pub book_at_seat_0 : Booked Contents Call → Booked Contents Call
book_at_seat_0 book = record { first = book.first; calls = moved_to_seat_0 book.calls }
