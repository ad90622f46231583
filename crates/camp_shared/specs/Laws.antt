-- Laws of members of a log of texts: its title, and then the texts of entries.
use Rattle.std.specs.Prelude.{◌≡◌, ◌+◌, ◌≤◌, ◌⊎◌, ℕ, List, [], ◌∷◌, ◌++◌, length, map, Option, Some, Ok, Err}
use Rattle.camp_call.specs.declared.calls.Call.{Call}
use Rattle.camp_entries.specs.Texts.{IsEntryOf}
use Rattle.camp_entries.specs.Titles.{IsLogTitle}
use Rattle.camp_member.specs.Entries.{Tagged, IsForeign, number_in}
use Rattle.camp_member.specs.Laws.{AnyReason}
use Rattle.camp_member.specs.Notes.{WithNote}
use Rattle.camp_member.specs.Readings.{IsReadingOf, Reading}
use Rattle.camp_member.specs.Snapshots.{IsRestoredFrom, IsSnapshotOf}
use Rattle.camp_member.specs.Telling.{MemberAdvances, accepted_in}
use Rattle.camp_member.specs.declared.faults.ReadFault.{ReadFault}
use Rattle.camp_object.specs.Histories.{IsBeginning, own}
use Rattle.camp_repo.specs.Limits.{Bounds}
use Rattle.camp_repo.specs.States.{Contents, new_within}
use Rattle.camp_shared.specs.Asking.{FindsText, RestoresText}
use Rattle.camp_shared.specs.Sharing.{Sharing, IsOpenedLog, shared_from}

-- the entries of texts, in the same order: for each text the entry that has it, or none
abbrev pub AreEntriesOf : List (List ℕ) → List (Option (Tagged (WithNote Call))) → Type 0
AreEntriesOf [] [] = Unit {0}
AreEntriesOf (text ∷ texts) (found ∷ log) = IsEntryOf text found × AreEntriesOf texts log
AreEntriesOf _ _ = ⊥

-- what was read of a log with this title and these texts after it: the history begins with a new repository with the limits of
-- the title, and is the lawful part of the entries of the texts
pub record HasReadTexts (title : List ℕ) (texts : List (List ℕ)) (reading : Reading Contents (WithNote Call)) : Type 0 where
  pub limits : Bounds
  pub titled : IsLogTitle title limits
  pub first : reading.first ≡ new_within limits
  pub log : List (Option (Tagged (WithNote Call)))
  pub entries : AreEntriesOf texts log
  pub reads : IsReadingOf (shared_from reading.first) log reading

-- what was restored of a log with this title from these texts of a snapshot: this many entries of the log come before the
-- next one
pub record HasRestoredTexts (title : List ℕ) (kept : List (List ℕ)) (count : ℕ) (reading : Reading Contents (WithNote Call)) : Type 0 where
  pub limits : Bounds
  pub titled : IsLogTitle title limits
  pub first : reading.first ≡ new_within limits
  pub entries : List (Tagged (WithNote Call))
  pub have : AreEntriesOf kept (map (λ entry. Some entry) entries)
  pub restored : IsRestoredFrom (shared_from reading.first) entries count reading

-- the entries of these texts are a snapshot of the log with this title and those texts
pub record IsSnapshotOfTexts (title : List ℕ) (texts kept : List (List ℕ)) : Type 0 where
  pub limits : Bounds
  pub titled : IsLogTitle title limits
  pub log : List (Option (Tagged (WithNote Call)))
  pub are : AreEntriesOf texts log
  pub entries : List (Tagged (WithNote Call))
  pub have : AreEntriesOf kept (map (λ entry. Some entry) entries)
  pub snapshot : IsSnapshotOf (shared_from (new_within limits)) log entries

-- the text is that of an entry with this tag
abbrev pub HasTag : ℕ → ℕ → List ℕ → Type 0
HasTag seat number text = (entry : Tagged (WithNote Call)) × IsEntryOf text (Some entry) × (entry.seat ≡ seat) × (entry.number ≡ number)

-- a newly opened member has read only the title
abbrev pub OpensAtTitle : Type 0
OpensAtTitle = (title : List ℕ) (seat : ℕ) (member : Sharing) → IsOpenedLog title seat member → HasReadTexts title [] member.reading

-- a text that a member finds was read before, or is read after all others
abbrev pub FindsTextsInOrder : Type 0
FindsTextsInOrder =
    (title : List ℕ) (texts : List (List ℕ)) (old new : Sharing) (index : ℕ) (text : List ℕ)
    → HasReadTexts title texts old.reading → FindsText old index text (Ok tt) new
    → ((index ≤ length texts) × (new ≡ old)) ⊎ ((index ≡ length texts + 1) × HasReadTexts title (texts ++ text ∷ []) new.reading)

-- a fault changes nothing in what a member has read
abbrev pub KeepsWhatWasRead : Type 0
KeepsWhatWasRead =
    (title : List ℕ) (texts : List (List ℕ)) (old new : Sharing) (index : ℕ) (text : List ℕ) (fault : ReadFault)
    → HasReadTexts title texts old.reading → FindsText old index text (Err fault) new → HasReadTexts title texts new.reading

-- if a text is foreign to one member, no member reads it or any text after it
abbrev pub NobodyReadsOn : Type 0
NobodyReadsOn =
    (title : List ℕ) (texts rest : List (List ℕ)) (text : List ℕ) (found : Option (Tagged (WithNote Call))) (one two : Reading Contents (WithNote Call))
    → HasReadTexts title texts one → IsEntryOf text found → IsForeign (number_in one.numbers) found
    → ¬ (HasReadTexts title (texts ++ text ∷ rest) two)

-- a newly opened member was restored from no text
abbrev pub OpensRestored : Type 0
OpensRestored = (title : List ℕ) (seat : ℕ) (member : Sharing) → IsOpenedLog title seat member → HasRestoredTexts title [] 0 member.reading

-- a member that restores one more text was restored from that text, too
abbrev pub RestoresTextsInOrder : Type 0
RestoresTextsInOrder =
    (title : List ℕ) (kept : List (List ℕ)) (count : ℕ) (old new : Sharing) (index : ℕ) (text : List ℕ)
    → HasRestoredTexts title kept count old.reading → RestoresText old index text (Ok tt) new
    → HasRestoredTexts title (kept ++ text ∷ []) index new.reading

-- a member that was restored from a snapshot of some texts, and continues after them, has read these texts
abbrev pub SnapshotStandsForTexts : Type 0
SnapshotStandsForTexts =
    (title : List ℕ) (texts kept : List (List ℕ)) (reading : Reading Contents (WithNote Call))
    → IsSnapshotOfTexts title texts kept → HasRestoredTexts title kept (length texts) reading → HasReadTexts title texts reading

-- a text with the tag of a text before it adds nothing to the history, so each tag counts once
abbrev pub SameTagAddsNothing : Type 0
SameTagAddsNothing =
    (title : List ℕ) (before between : List (List ℕ)) (text again : List ℕ) (seat number : ℕ) (one two : Reading Contents (WithNote Call))
    → HasTag seat number text → HasTag seat number again
    → HasReadTexts title (before ++ text ∷ between) one → HasReadTexts title ((before ++ text ∷ between) ++ again ∷ []) two
    → two.history ≡ one.history

-- members that have read the same texts have the same history, from the same repository
abbrev pub SameTextsAgree : Type 0
SameTextsAgree =
    (title : List ℕ) (texts : List (List ℕ)) (one two : Reading Contents (WithNote Call))
    → HasReadTexts title texts one → HasReadTexts title texts two → (one.first ≡ two.first) × (one.history ≡ two.history)

-- where the texts of one member are a prefix of another's, so is its history
abbrev pub MoreTextsGiveMore : Type 0
MoreTextsGiveMore =
    (title : List ℕ) (first texts : List (List ℕ)) (one two : Reading Contents (WithNote Call))
    → IsBeginning first texts → HasReadTexts title first one → HasReadTexts title texts two → IsBeginning one.history two.history

-- of the histories of two members, each of a part of one log from its start, one is a prefix of the other
abbrev pub MembersShareOneHistory : Type 0
MembersShareOneHistory =
    (title : List ℕ) (texts first second : List (List ℕ)) (one two : Reading Contents (WithNote Call))
    → IsBeginning first texts → IsBeginning second texts → HasReadTexts title first one → HasReadTexts title second two
    → IsBeginning one.history two.history ⊎ IsBeginning two.history one.history

-- the calls of the member's own seat in its history are those that it answered as accepted, each once, in the order of
-- its requests
abbrev pub AcceptedAreAnswered : Type 0
AcceptedAreAnswered =
    (title : List ℕ) (seat : ℕ) (opened now : Sharing) → IsOpenedLog title seat opened
    → (goes : MemberAdvances (shared_from opened.reading.first) AnyReason opened now)
    → own seat now.reading.history ≡ accepted_in (shared_from opened.reading.first) goes.told
