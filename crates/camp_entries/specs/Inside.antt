-- Definitions that only private functions use.
use Rattle.std.specs.Prelude.{◌≡◌, ◌≢◌, ◌<◌, ◌≤◌, ◌+◌, ◌^◌, ℕ, true, List, [], ◌∷◌, ◌++◌, length, map, take, Option, None, Some}
use Rattle.std.specs.List.{AllByRecursion, flat_map}
use Rattle.camp_base.specs.Signs.{newline}
use Rattle.camp_call.specs.declared.calls.Call.{Call}
use Rattle.camp_member.specs.Entries.{Tagged}
use Rattle.camp_member.specs.Notes.{WithNote}
use Rattle.camp_script.specs.Canonical.{IsScriptCall}
use Rattle.camp_entries.specs.Texts.{CanBeLogged, IsNote, IsNoted, begins_note, text_of_entry, text_of_head, is_one_line, noted_text}
use Rattle.camp_entries.specs.declared.heads.Head.{Head}

-- the length in bytes of the first line of a text, with its line feed; none if there is no line feed
abbrev pub IsLineLength : List ℕ → Option ℕ → Type 0
IsLineLength bytes None = (line rest : List ℕ) → is_one_line line ≡ true → bytes ≢ line ++ newline ∷ rest
IsLineLength bytes (Some found) =
    (found ≤ length bytes) × ((line : List ℕ) × (is_one_line line ≡ true) × (take found bytes ≡ line ++ newline ∷ []))
    × ((line rest : List ℕ) → is_one_line line ≡ true → bytes ≡ line ++ newline ∷ rest → found ≡ length line + 1)

-- the length of the note at the start of bytes
pub record IsNoteLength (bytes : List ℕ) (found : ℕ) : Type 0 where
  pub within : found ≤ length bytes
  pub note : IsNote (take found bytes)
  pub whole : (note rest : List ℕ) → IsNote note → begins_note rest ≢ true → bytes ≡ note ++ rest → found ≡ length note

-- the parsed seat has these digits; if there is none, no seat has them
abbrev pub IsSeatOfDigits : List ℕ → (ℕ → List ℕ) → Option ℕ → Type 0
IsSeatOfDigits digits text found = (seat : ℕ) → seat < 2 ^ 128 → text seat ≡ digits → found ≡ Some seat

-- the parsed head stands at the start of the bytes; if there is none, no head does
abbrev pub IsHeadOf : List ℕ → Option Head → Type 0
IsHeadOf bytes found =
    (seat number : ℕ) (body : List ℕ) → seat < 2 ^ 128 → number < 2 ^ 64 → bytes ≡ text_of_head seat number ++ body
    → found ≡ Some (record { seat = seat; number = number; len = length (text_of_head seat number) })

-- calls with notes, and their text
pub record HaveText (body : List ℕ) (noted : List (WithNote Call)) : Type 0 where
  pub can : AllByRecursion IsNoted noted
  pub is : flat_map noted_text noted ≡ body

-- the calls of calls with notes, without the notes
abbrev pub calls_in : List (WithNote Call) → List Call
calls_in noted = map (λ one. one.call) noted

-- no list of calls has this text
abbrev pub NoneHave : List ℕ → Type 0
NoneHave body = (noted : List (WithNote Call)) → length noted ≤ 256 → ¬ (HaveText body noted)

-- the parsed calls if their canonical text is this text, else none
abbrev pub AreOnlyOf : List ℕ → List (WithNote Call) → Type 0
AreOnlyOf body found = AllByRecursion IsNoted found × ((noted : List (WithNote Call)) → length noted ≤ 256 → HaveText body noted → found ≡ noted)

-- no list of calls with notes has this text if it consists of these calls
abbrev pub NoneHaveWith : List ℕ → List Call → Type 0
NoneHaveWith body calls = (noted : List (WithNote Call)) → calls_in noted ≡ calls → ¬ (HaveText body noted)

abbrev pub AreOnlyWith : List ℕ → List Call → List (WithNote Call) → Type 0
AreOnlyWith body calls found =
    (AllByRecursion IsScriptCall calls → AllByRecursion IsNoted found)
    × ((noted : List (WithNote Call)) → calls_in noted ≡ calls → HaveText body noted → found ≡ noted)

-- the parsed call with its note if its canonical text is this text, else none
abbrev pub IsOnlyNotedOf : List ℕ → Option (WithNote Call) → Type 0
IsOnlyNotedOf text None = (noted : WithNote Call) → IsNoted noted → noted_text noted ≢ text
IsOnlyNotedOf text (Some found) =
    IsNoted found × ((other : WithNote Call) → IsNoted other → noted_text other ≡ text → found ≡ other)

-- the parsed entry if its canonical text is this text, else none
abbrev pub IsOnlyEntryOf : List ℕ → Option (Tagged (WithNote Call)) → Type 0
IsOnlyEntryOf text None = (entry : Tagged (WithNote Call)) → CanBeLogged entry → text_of_entry entry ≢ text
IsOnlyEntryOf text (Some found) =
    (found.seat < 2 ^ 128 → found.number < 2 ^ 64 → text_of_entry found ≡ text → CanBeLogged found)
    × ((entry : Tagged (WithNote Call)) → CanBeLogged entry → text_of_entry entry ≡ text → found ≡ entry)
