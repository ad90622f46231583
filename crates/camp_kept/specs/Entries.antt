-- The texts of a store after its title: entries, each of which has notes, and after them a call, if there is one.
use Rattle.std.specs.Prelude.{◌≡◌, ◌≢◌, ◌≤◌, ℕ, ◌+◌, List, [], ◌∷◌, ◌++◌, Option, None, Some, length, map, option_to_list}
use Rattle.std.specs.List.{AllByRecursion}
use Rattle.camp_call.specs.declared.calls.Call.{Call}
use Rattle.camp_notes.specs.Notes.{CanBeNote}
use Rattle.camp_notes.specs.Texts.{notes_text}
use Rattle.camp_notes.specs.declared.logs.PlacedNote.{PlacedNote}
use Rattle.camp_notes.specs.declared.notes.Note.{Note}
use Rattle.camp_script.specs.Canonical.{call_text}

-- notes, and the call after them, if there is one
pub record StoredEntry : Type 0 where
  pub notes : List Note
  pub call : Option Call

-- the texts of calls, each in the form of a script
abbrev pub call_texts : List Call → List (List ℕ)
call_texts calls = map call_text calls

-- the text of a call, if there is one
abbrev pub text_of_call : Option Call → List ℕ
text_of_call None = []
text_of_call (Some call) = call_text call

-- the text of an entry: its notes, and then its call
abbrev pub text_of_stored : StoredEntry → List ℕ
text_of_stored entry = notes_text entry.notes ++ text_of_call entry.call

-- an entry that a store can contain: its notes can be represented, and it is not empty
pub record IsStoredEntry (entry : StoredEntry) : Type 0 where
  pub notes : AllByRecursion CanBeNote entry.notes
  pub some : text_of_stored entry ≢ []

-- the texts of entries
abbrev pub entry_texts : List StoredEntry → List (List ℕ)
entry_texts entries = map text_of_stored entries

-- the calls of entries, in order
abbrev pub calls_of_entries : List StoredEntry → List Call
calls_of_entries [] = []
calls_of_entries (entry ∷ entries) = option_to_list entry.call ++ calls_of_entries entries

-- notes that were given after this number of calls
abbrev pub placed_at : ℕ → List Note → List PlacedNote
placed_at at notes = map (λ note. record { at = at; note = note }) notes

-- the notes of entries after this number of calls, in order, each with the number of calls before it
abbrev pub notes_in_from : ℕ → List StoredEntry → List PlacedNote
notes_in_from at [] = []
notes_in_from at (entry ∷ entries) =
    placed_at at entry.notes ++ notes_in_from (at + length (option_to_list entry.call)) entries

-- texts are those of entries, which have these calls and notes, after this number of calls
pub record AreStoredEntries (at : ℕ) (calls : List Call) (notes : List PlacedNote) (texts : List (List ℕ)) : Type 0 where
  pub entries : List StoredEntry
  pub can : AllByRecursion IsStoredEntry entries
  pub texts_are : texts ≡ entry_texts entries
  pub calls_are : calls ≡ calls_of_entries entries
  pub notes_are : notes ≡ notes_in_from at entries

-- notes are in place: in the order of the numbers of calls before them, which are not less than `low` and not more than
-- `high`
abbrev pub AreInPlace : ℕ → ℕ → List PlacedNote → Type 0
AreInPlace low high [] = Unit {0}
AreInPlace low high (one ∷ others) = (low ≤ one.at) × (one.at ≤ high) × AreInPlace one.at high others
