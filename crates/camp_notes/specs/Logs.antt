-- Notes in the order in which they were given.
use Rattle.std.specs.Prelude.{List, map}
use Rattle.camp_notes.specs.declared.logs.PlacedNote.{PlacedNote}
use Rattle.camp_notes.specs.declared.notes.Note.{Note}

-- the notes of a log, without their places
abbrev pub notes_placed : List PlacedNote → List Note
notes_placed placed = map (λ one. one.note) placed
