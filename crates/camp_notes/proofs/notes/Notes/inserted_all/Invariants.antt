use Rattle.std.proofs.Common.{◌≡◌, take}
use Rattle.camp_notes.specs.Notes.{with_notes}
use Rattle.camp_notes.proofs.notes.Notes.inserted_all.Given as goal

abbrev pub invariant-loop-note : goal.invariant-loop-note
invariant-loop-note l = l.all ≡ with_notes l.self (take l.note-index l.notes)
