-- The text of an entry: a line with its seat and its number, and then each call after its note.
use Rattle.std.specs.Prelude.{◌≡◌, ◌≢◌, ◌<◌, ◌≤◌, ◌^◌, ◌/◌, ◌%◌, ◌+◌, ◌&&◌, ◌==◌, not, suc, zero, ℕ, Bool, true, List, [], ◌∷◌, ◌++◌, length, codes, Option, None, Some}
use Rattle.std.specs.List.{AllByRecursion, flat_map, list_all, starts_with}
use Rattle.std.specs.Char.{digit_char}
use Rattle.std.specs.Fmt.{decimal}
use Rattle.camp_base.specs.Signs.{newline}
use Rattle.camp_call.specs.declared.calls.Call.{Call}
use Rattle.camp_entries.specs.declared.faults.EntryFault.{EntryFault}
use Rattle.camp_entries.specs.declared.faults.EntryFault.TheVariants.{Memory, Unfit}
use Rattle.camp_member.specs.Entries.{IsEntry, Tagged}
use Rattle.camp_member.specs.Notes.{WithNote}
use Rattle.camp_script.specs.Canonical.{IsScriptCall, call_text}
use Rattle.camp_script.specs.Texts.{line_text}

-- the last `count` hexadecimal digits of a number
unfoldable pub hex_digits : ℕ → ℕ → List ℕ
hex_digits zero number = []
hex_digits (suc count) number = hex_digits count (number / 16) ++ digit_char (number % 16) ∷ []

-- the text of a seat: 32 hexadecimal digits
abbrev pub seat_text : ℕ → List ℕ
seat_text seat = hex_digits 32 seat

-- whether a line of a note begins with these bytes
abbrev pub begins_note : List ℕ → Bool
begins_note bytes = starts_with (λ a b. a == b) bytes (codes "#")

-- bytes have no line feed
abbrev pub is_one_line : List ℕ → Bool
is_one_line bytes = list_all (λ byte. not (byte == newline)) bytes

-- a line of a note: it begins with `#`
abbrev pub is_note_line : List ℕ → Bool
is_note_line line = begins_note line && is_one_line line

-- lines, each with its line feed
abbrev pub text_of_lines : List (List ℕ) → List ℕ
text_of_lines lines = flat_map (λ line. line ++ newline ∷ []) lines

-- the bytes of a note: lines that begin with `#`, as comments of a script do
abbrev pub IsNote : List ℕ → Type 0
IsNote note = (lines : List (List ℕ)) × AllByRecursion (λ line. is_note_line line ≡ true) lines × (note ≡ text_of_lines lines)

-- a call that a script can contain, and its note, which may be empty
abbrev pub IsNoted : WithNote Call → Type 0
IsNoted noted = IsNote noted.note × IsScriptCall noted.call

-- the text of a call after its note
abbrev pub noted_text : WithNote Call → List ℕ
noted_text noted = noted.note ++ call_text noted.call

-- the parsed call can be in a script and has this text after its note; if there is none, no call that can be in a
-- script has this text
abbrev pub IsNotedOf : List ℕ → Option (WithNote Call) → Type 0
IsNotedOf text None = (noted : WithNote Call) → IsNoted noted → noted_text noted ≢ text
IsNotedOf text (Some noted) =
    IsNoted noted × (noted_text noted ≡ text)
    × ((other : WithNote Call) → IsNoted other → noted_text other ≡ text → noted ≡ other)

-- the first line of an entry
abbrev pub text_of_head : ℕ → ℕ → List ℕ
text_of_head seat number = line_text (codes "entry" ∷ seat_text seat ∷ decimal number ∷ [])

-- why something was not rendered: memory ran out, or no log can contain it
abbrev pub IsWhyNot : EntryFault → Type 0 → Type 0
IsWhyNot Memory CanBe = Unit {0}
IsWhyNot Unfit CanBe = ¬ CanBe

-- the text of an entry
abbrev pub text_of_entry : Tagged (WithNote Call) → List ℕ
text_of_entry entry = text_of_head entry.seat entry.number ++ flat_map noted_text entry.calls

-- an entry that a log can contain: a member may append it, scripts can contain its calls, and its text has at most
-- 1,048,576 bytes
pub record CanBeLogged (entry : Tagged (WithNote Call)) : Type 0 where
  pub seat : entry.seat < 2 ^ 128
  pub number : entry.number < 2 ^ 64
  pub is : IsEntry entry
  pub calls : AllByRecursion IsNoted entry.calls
  pub short : length (text_of_entry entry) ≤ 1_048_576

-- the parsed entry can be in a log and has this text; if there is none, no entry that can be in a log has this text
abbrev pub IsEntryOf : List ℕ → Option (Tagged (WithNote Call)) → Type 0
IsEntryOf text None = (entry : Tagged (WithNote Call)) → CanBeLogged entry → text_of_entry entry ≢ text
IsEntryOf text (Some entry) =
    CanBeLogged entry × (text_of_entry entry ≡ text)
    × ((other : Tagged (WithNote Call)) → CanBeLogged other → text_of_entry other ≡ text → entry ≡ other)
