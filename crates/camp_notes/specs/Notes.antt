-- Notes: texts by the names of patches.
use Rattle.std.specs.Prelude.{ℕ, ◌≤◌, IsTrue, List, [], ◌∷◌, length, map}
use Rattle.std.specs.Ordering.{nat_cmp}
use Rattle.std.specs.Cmp.Lexicographic.{slice_cmp}
use Rattle.std.specs.FinMap.{FinMap, entries, insert}
use Rattle.camp_base.specs.Bytes.{is_name}
use Rattle.camp_notes.specs.Limits.{longest_note}
use Rattle.camp_notes.specs.declared.notes.Note.{Note}

-- a note that a program can represent: its name is a name, and its text is not too long
abbrev pub CanBeNote : Note → Type 0
CanBeNote note = IsTrue (is_name note.name) × (length note.text ≤ longest_note)

-- notes: a finite map from names to texts, sorted by the bytes of the names
abbrev pub NoteTexts : Type 0
NoteTexts = FinMap (slice_cmp nat_cmp) (List ℕ)

-- the note of a name and a text
abbrev pub note_of : List ℕ × List ℕ → Note
note_of entry = record { name = entry.0; text = entry.1 }

-- each note of a map, sorted by the bytes of the names
abbrev pub notes_in : NoteTexts → List Note
notes_in texts = map note_of (entries texts)

-- a map after more notes; of several notes of one name the last counts
abbrev pub with_notes : NoteTexts → List Note → NoteTexts
with_notes texts [] = texts
with_notes texts (note ∷ notes) = with_notes (insert texts note.name note.text) notes
