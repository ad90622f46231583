-- Why bytes are not the text of notes.
use Rattle.std.specs.Prelude.{◌≡◌, ◌≢◌, ◌⊎◌, ◌<◌, ◌≤◌, ◌+◌, ◌==◌, not, ℕ, true, false, IsTrue, List, [], ◌++◌, codes, count_by, length}
use Rattle.std.specs.List.{AllByRecursion, list_all}
use Rattle.camp_base.specs.Bytes.{is_name}
use Rattle.camp_base.specs.Signs.{newline}
use Rattle.camp_notes.specs.Limits.{longest_note}
use Rattle.camp_notes.specs.Notes.{CanBeNote}
use Rattle.camp_notes.specs.Texts.{begins_comment, begins_text_line, begins_title, notes_text, signed_bytes, title_line}
use Rattle.camp_notes.specs.declared.faults.NoteFault.{NoteFault}
use Rattle.camp_notes.specs.declared.faults.NoteFault.TheVariants.{Line, Memory}
use Rattle.camp_notes.specs.declared.faults.NoteFaultKind.{NoteFaultKind}
use Rattle.camp_notes.specs.declared.faults.NoteFaultKind.TheVariants.{BadName, Misplaced, NotEnded, TooLong}
use Rattle.camp_notes.specs.declared.notes.Note.{Note}

-- bytes have no line feed
abbrev pub has_no_feed : List ℕ → Type 0
has_no_feed bytes = list_all (λ byte. not (byte == newline)) bytes ≡ true

-- the number of line feeds in bytes
abbrev pub feeds_in : List ℕ → ℕ
feeds_in bytes = count_by (λ byte. byte == newline) bytes

-- bytes begin with the header line of a note, whose name is none
pub record HasBadName (bytes : List ℕ) : Type 0 where
  pub word : List ℕ
  pub more : List ℕ
  pub is : bytes ≡ title_line word ++ more
  pub one_line : has_no_feed word
  pub bad : is_name word ≡ false

-- bytes begin with the header line of a note, and a text with too many bytes
pub record HasTooLong (bytes : List ℕ) : Type 0 where
  pub name : List ℕ
  pub text : List ℕ
  pub more : List ℕ
  pub is : bytes ≡ title_line name ++ (codes "#+" ++ (signed_bytes text ++ more))
  pub named : IsTrue (is_name name)
  pub long : longest_note < length text

-- bytes end within the header line of a note
pub record EndsInTitle (bytes : List ℕ) : Type 0 where
  pub rest : List ℕ
  pub is : bytes ≡ codes "#note " ++ rest
  pub one_line : has_no_feed rest

-- bytes begin with the header line of a note, and no line of a text follows
pub record HasNoLine (bytes : List ℕ) : Type 0 where
  pub name : List ℕ
  pub more : List ℕ
  pub is : bytes ≡ title_line name ++ more
  pub named : IsTrue (is_name name)
  pub none : begins_text_line more ≡ false

-- bytes begin with the header line of a note, and end within a line of its text, which is not too long
pub record EndsInLine (bytes : List ℕ) : Type 0 where
  pub name : List ℕ
  pub text : List ℕ
  pub short : length text ≤ longest_note
  pub is : bytes ≡ title_line name ++ (codes "#+" ++ signed_bytes text)
  pub named : IsTrue (is_name name)

-- why no note begins here. Misplaced: the first line is no header line. BadName: it names no patch. TooLong: the text
-- has too many bytes. NotEnded: the last line has no line feed, or there is no line after the first.
abbrev pub BeginNoNote : NoteFaultKind → List ℕ → Type 0
BeginNoNote Misplaced bytes = begins_title bytes ≡ false
BeginNoNote BadName bytes = HasBadName bytes
BeginNoNote TooLong bytes = HasTooLong bytes
BeginNoNote NotEnded bytes = EndsInTitle bytes ⊎ (HasNoLine bytes ⊎ EndsInLine bytes)

-- after whole notes, at this line, counted from 1, no note begins, for this reason
pub record IsFaultyAt (bytes : List ℕ) (line : ℕ) (kind : NoteFaultKind) : Type 0 where
  pub before : List Note
  pub can : AllByRecursion CanBeNote before
  pub rest : List ℕ
  pub split : bytes ≡ notes_text before ++ rest
  -- the notes before are whole: no further line of the last one follows
  pub whole : before ≢ [] → begins_text_line rest ≡ false
  pub at : line ≡ feeds_in (notes_text before) + 1
  pub wrong : BeginNoNote kind rest

-- no notes have this text
abbrev pub IsNoNotesText : List ℕ → Type 0
IsNoNotesText bytes = (notes : List Note) → AllByRecursion CanBeNote notes → notes_text notes ≢ bytes

-- the parsed notes have this text, and no others have it
abbrev pub AreNotesOf : List ℕ → List Note → Type 0
AreNotesOf bytes notes =
    AllByRecursion CanBeNote notes × (notes_text notes ≡ bytes)
    × ((others : List Note) → AllByRecursion CanBeNote others → notes_text others ≡ bytes → notes ≡ others)

-- why bytes are not the text of notes: their first fault; or memory ran out
abbrev pub RefusesNotes : List ℕ → NoteFault → Type 0
RefusesNotes bytes Memory = Unit {0}
RefusesNotes bytes (Line line kind) = IsFaultyAt bytes line kind × IsNoNotesText bytes

-- bytes are the text of notes, followed by a rest that is no comment
pub record AreNotesBefore (bytes : List ℕ) (notes : List Note) (rest : List ℕ) : Type 0 where
  pub can : AllByRecursion CanBeNote notes
  pub is : bytes ≡ notes_text notes ++ rest
  pub ends : begins_comment rest ≡ false

-- the parsed notes and the rest are the bytes, and no others are
abbrev pub AreOnlyNotesBefore : List ℕ → List Note → List ℕ → Type 0
AreOnlyNotesBefore bytes notes rest =
    AreNotesBefore bytes notes rest
    × ((others : List Note) (more : List ℕ) → AreNotesBefore bytes others more → (notes ≡ others) × (rest ≡ more))

-- why bytes do not begin with notes, followed by a rest that is no comment: the first fault; or memory ran out
abbrev pub RefusesNotesBefore : List ℕ → NoteFault → Type 0
RefusesNotesBefore bytes Memory = Unit {0}
RefusesNotesBefore bytes (Line line kind) =
    IsFaultyAt bytes line kind × ((others : List Note) (more : List ℕ) → ¬ (AreNotesBefore bytes others more))
