-- What a member of a log of texts does with requests, and with what it finds in the log.
use Rattle.std.specs.Prelude.{◌≡◌, ◌≢◌, ◌<◌, ◌≤◌, ◌+◌, ◌-◌, ◌⊎◌, ℕ, true, false, List, [], ◌∷◌, ◌++◌, length, Result, Ok, Err, Option, IfSome, IsSome}
use Rattle.camp_call.specs.declared.calls.Call.{Call}
use Rattle.camp_entries.specs.Texts.{CanBeLogged, IsEntryOf, IsNoted, noted_text, text_of_entry}
use Rattle.camp_member.specs.Entries.{Tagged, IsForeign, number_in}
use Rattle.camp_member.specs.Members.{stopped}
use Rattle.camp_member.specs.Notes.{WithNote, noting}
use Rattle.camp_member.specs.Snapshots.{CanFollow, IsOfSeat, RestoresOther}
use Rattle.camp_member.specs.Wanting.{AfterEnd, FindsEntry, IsAlien, IsNeeded, WantsOfLog}
use Rattle.camp_member.specs.declared.faults.ReadFault.{ReadFault}
use Rattle.camp_member.specs.declared.faults.ReadFault.TheVariants as read
use Rattle.camp_member.specs.declared.requests.Want.{Want}
use Rattle.camp_member.specs.declared.requests.Want.TheVariants as want
use Rattle.camp_repo.specs.Objects.{repository}
use Rattle.camp_shared.specs.Sharing.{Sharing, most_bytes_of_calls, shared_from}
use Rattle.camp_shared.specs.declared.faults.AskFault.{AskFault}
use Rattle.camp_shared.specs.declared.faults.AskFault.TheVariants.{Memory, NoCall, TooLong}
use Rattle.camp_shared.specs.declared.wanting.TextWant.{TextWant}
use Rattle.camp_shared.specs.declared.wanting.TextWant.TheVariants as text_want

-- the result of asking with a text. Ok: the text is one call, with or without a note before it, and its request waits
-- after the others; else nothing has changed
abbrev pub AsksText : ℕ → List ℕ → ℕ → Sharing → Result (Unit {0}) AskFault → Sharing → Type 0
AsksText id text at_least old (Ok done) new =
    (call : WithNote Call) × IsNoted call × (noted_text call ≡ text) × (length text ≤ most_bytes_of_calls)
    × (new ≡ record old { waiting = old.waiting ++ record { id = id; call = call; at_least = at_least } ∷ [] })
AsksText id text at_least old (Err Memory) new = new ≡ old
AsksText id text at_least old (Err NoCall) new = ((call : WithNote Call) → IsNoted call → noted_text call ≢ text) × (new ≡ old)
AsksText id text at_least old (Err TooLong) new = (most_bytes_of_calls < length text) × (new ≡ old)

-- what is wanted, as text: an index of the log counts from the title; an entry is one that a log can contain, by its
-- number and its text
abbrev pub IsRendered : Want (WithNote Call) → TextWant → Type 0
IsRendered want.Nothing text_want.Nothing = Unit {0}
IsRendered (want.Read from) (text_want.Read at) = at ≡ from + 1
IsRendered (want.Append entry) (text_want.Append number text) =
    (number ≡ entry.number) × CanBeLogged entry × (text.items ≡ text_of_entry entry)
IsRendered _ _ = ⊥

-- what a member wants of its log, as text; a new entry is started only if one is needed
pub record WantsText (old new : Sharing) (text : TextWant) : Type 0 where
  pub what : Want (WithNote Call)
  pub renders : IsRendered what text
  pub wants : WantsOfLog (noting repository) what new
  pub needed : old.sent ≡ 0 → IsNeeded (shared_from new.reading.first) what new

-- the entry parsed at the next index of the log is read, or it stops the member
abbrev pub ReadsNextEntry : Sharing → ℕ → Option (Tagged (WithNote Call)) → Result (Unit {0}) ReadFault → Sharing → Type 0
ReadsNextEntry old index found (Ok done) new =
    (old.is_stopped ≡ false) × IfSome found (λ entry. FindsEntry (shared_from old.reading.first) old entry new) × IsSome found
ReadsNextEntry old index found (Err read.Memory) new = new ≡ old
ReadsNextEntry old index found (Err (read.OutOfOrder next)) new = ⊥
ReadsNextEntry old index found (Err (read.Foreign at)) new =
    (at ≡ index) × (new ≡ stopped old)
    × ((old.is_stopped ≡ true) ⊎ IsForeign (number_in old.reading.numbers) found ⊎ IsAlien (shared_from old.reading.first) old found)

-- the text at an index of the log is found: it was read before, or it is the next one and its entry is read, or it
-- stops the member
abbrev pub FindsText : Sharing → ℕ → List ℕ → Result (Unit {0}) ReadFault → Sharing → Type 0
FindsText old index text (Ok done) new =
    ((index < old.reading.index + 1) × (new ≡ old))
    ⊎ ((index ≡ old.reading.index + 1) × ((found : Option (Tagged (WithNote Call))) × IsEntryOf text found × ReadsNextEntry old index found (Ok done) new))
FindsText old index text (Err read.Memory) new = new ≡ old
FindsText old index text (Err (read.OutOfOrder next)) new = (next ≡ old.reading.index + 1) × (next < index) × (new ≡ old)
FindsText old index text (Err (read.Foreign at)) new =
    (index ≡ old.reading.index + 1)
    × ((found : Option (Tagged (WithNote Call))) × IsEntryOf text found × ReadsNextEntry old index found (Err (read.Foreign at)) new)

-- the entry parsed at an index of a snapshot is restored; after a fault the member is unchanged
abbrev pub RestoresParsed : Sharing → ℕ → Option (Tagged (WithNote Call)) → Result (Unit {0}) ReadFault → Sharing → Type 0
RestoresParsed old index found (Ok done) new =
    (old.is_stopped ≡ false) × IfSome found (λ entry. RestoresOther (shared_from old.reading.first) (index - 1) old entry new) × IsSome found
RestoresParsed old index found (Err read.Memory) new = new ≡ old
RestoresParsed old index found (Err (read.OutOfOrder next)) new = ⊥
RestoresParsed old index found (Err (read.Foreign at)) new =
    (at ≡ index) × (new ≡ old)
    × ((old.is_stopped ≡ true) ⊎ IsOfSeat old.seat found ⊎ ¬ (CanFollow (number_in old.reading.numbers) found))

-- the text that a snapshot has at an index of the log is restored; after a fault the member is unchanged
abbrev pub RestoresText : Sharing → ℕ → List ℕ → Result (Unit {0}) ReadFault → Sharing → Type 0
RestoresText old index text (Ok done) new =
    (old.reading.index < index) × ((found : Option (Tagged (WithNote Call))) × IsEntryOf text found × RestoresParsed old index found (Ok done) new)
RestoresText old index text (Err read.Memory) new = new ≡ old
RestoresText old index text (Err (read.OutOfOrder next)) new = (next ≡ old.reading.index + 1) × (index < next) × (new ≡ old)
RestoresText old index text (Err (read.Foreign at)) new =
    (old.reading.index < index) × ((found : Option (Tagged (WithNote Call))) × IsEntryOf text found × RestoresParsed old index found (Err (read.Foreign at)) new)

-- the log ends at an index, which counts from the title
abbrev pub EndsTexts : Sharing → ℕ → Sharing → Type 0
EndsTexts old index new = ((index ≡ 0) × (new ≡ old)) ⊎ ((0 < index) × AfterEnd (shared_from old.reading.first) old (index - 1) new)
