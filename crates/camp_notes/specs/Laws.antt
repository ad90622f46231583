-- Laws of notes and their texts.
use Rattle.std.specs.Prelude.{◌≡◌, List}
use Rattle.std.specs.List.{AllByRecursion}
use Rattle.std.specs.FinMap.{empty}
use Rattle.camp_notes.specs.Faults.{AreNotesOf}
use Rattle.camp_notes.specs.Notes.{CanBeNote, NoteTexts, notes_in, with_notes}
use Rattle.camp_notes.specs.Texts.{notes_text}
use Rattle.camp_notes.specs.declared.notes.Note.{Note}

-- notes with the same text are the same notes, in the same order
abbrev pub TextsTellNotes : Type 0
TextsTellNotes =
    (notes others : List Note) → AllByRecursion CanBeNote notes → AllByRecursion CanBeNote others
    → notes_text notes ≡ notes_text others → notes ≡ others

-- the notes of a map, taken one after the other, make the map
abbrev pub NotesMakeTheirMap : Type 0
NotesMakeTheirMap = (texts : NoteTexts) → with_notes empty (notes_in texts) ≡ texts

-- notes that are parsed from the text of a map make the map
abbrev pub MapsComeBack : Type 0
MapsComeBack =
    (texts : NoteTexts) (notes : List Note) → AllByRecursion CanBeNote (notes_in texts)
    → AreNotesOf (notes_text (notes_in texts)) notes → with_notes empty notes ≡ texts
