-- Definitions that only private functions use.
use Rattle.std.specs.Prelude.{◌≡◌, ◌≢◌, ◌≤◌, ◌<◌, ◌⊎◌, ℕ, false, IsTrue, List, [], ◌∷◌, ◌++◌, length}
use Rattle.camp_base.specs.Bytes.{is_name}
use Rattle.camp_base.specs.Signs.{newline}
use Rattle.camp_notes.specs.Faults.{BeginNoNote, EndsInTitle, HasBadName}
use Rattle.camp_notes.specs.Limits.{longest_note}
use Rattle.camp_notes.specs.Notes.{CanBeNote}
use Rattle.camp_notes.specs.Texts.{begins_text_line, begins_title, note_text, signed_bytes, title_line}
use Rattle.camp_notes.specs.declared.faults.NoteFaultKind.{NoteFaultKind}
use Rattle.camp_notes.specs.declared.faults.NoteFaultKind.TheVariants.{BadName, Misplaced, NotEnded, TooLong}
use Rattle.camp_notes.specs.declared.notes.Note.{Note}

-- bytes are the header line of the note of this name, and the rest
pub record BeginsTitle (bytes name rest : List ℕ) : Type 0 where
  pub named : IsTrue (is_name name)
  pub is : bytes ≡ title_line name ++ rest

-- why bytes do not begin with the header line of a note
abbrev pub BeginNoTitle : NoteFaultKind → List ℕ → Type 0
BeginNoTitle Misplaced bytes = begins_title bytes ≡ false
BeginNoTitle BadName bytes = HasBadName bytes
BeginNoTitle TooLong bytes = ⊥
BeginNoTitle NotEnded bytes = EndsInTitle bytes

-- bytes do not begin with the header line of a note, for this reason
abbrev pub FailsTitle : List ℕ → NoteFaultKind → Type 0
FailsTitle bytes kind = BeginNoTitle kind bytes × ((name more : List ℕ) → IsTrue (is_name name) → bytes ≢ title_line name ++ more)

-- bytes after the sign of a first line are the rest of the lines of a text, with its last line feed, and others
pub record BeginsLines (bytes text rest : List ℕ) : Type 0 where
  pub short : length text ≤ longest_note
  pub is : bytes ≡ signed_bytes text ++ newline ∷ rest
  pub ends : begins_text_line rest ≡ false

-- bytes after the sign of a first line begin with too many bytes of a text
pub record BeginsTooLong (bytes : List ℕ) : Type 0 where
  pub text : List ℕ
  pub more : List ℕ
  pub is : bytes ≡ signed_bytes text ++ more
  pub long : longest_note < length text

-- bytes after the sign of a first line are those of a text without its last line feed
pub record EndsUnended (bytes : List ℕ) : Type 0 where
  pub text : List ℕ
  pub short : length text ≤ longest_note
  pub is : bytes ≡ signed_bytes text

-- why bytes after the sign of a first line do not begin with a text
abbrev pub BeginNoLines : NoteFaultKind → List ℕ → Type 0
BeginNoLines Misplaced bytes = ⊥
BeginNoLines BadName bytes = ⊥
BeginNoLines TooLong bytes = BeginsTooLong bytes
BeginNoLines NotEnded bytes = EndsUnended bytes

-- bytes are a note, and others that are no further line of it
pub record BeginsNote (bytes : List ℕ) (note : Note) (rest : List ℕ) : Type 0 where
  pub can : CanBeNote note
  pub is : bytes ≡ note_text note ++ rest
  pub ends : begins_text_line rest ≡ false

-- a text ends here: there are no more bytes, or a line feed without the sign of another line
abbrev pub EndsText : List ℕ → Type 0
EndsText bytes = (bytes ≡ []) ⊎ ((rest : List ℕ) × (bytes ≡ newline ∷ rest) × (begins_text_line rest ≡ false))

-- bytes do not begin with a note
abbrev pub HasNoNote : List ℕ → Type 0
HasNoNote bytes = (note : Note) (more : List ℕ) → CanBeNote note → begins_text_line more ≡ false → bytes ≢ note_text note ++ more

-- bytes do not begin with a note, for this reason
abbrev pub FailsNote : List ℕ → NoteFaultKind → Type 0
FailsNote bytes kind = BeginNoNote kind bytes × HasNoNote bytes
