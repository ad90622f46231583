-- Laws of what is read of a log.
use Rattle.std.specs.Prelude.{◌≡◌, ◌<◌, ◌+◌, ◌⊎◌, ℕ, List, [], ◌∷◌, ◌++◌, length, Option, Some, Result, Ok, slice_get}
use Rattle.camp_object.specs.Objects.{Sequential}
use Rattle.camp_object.specs.Histories.{IsBeginning, IsLegal, own}
use Rattle.camp_object.specs.Asking.{IsNotBusy}
use Rattle.camp_member.specs.Entries.{Tagged, IsForeign, IsReadable, counted_entries, of_seat, number_in}
use Rattle.camp_member.specs.Members.{Membership, as_answer}
use Rattle.camp_member.specs.Readings.{Reading, IsReadingOf, ReadsEntry}
use Rattle.camp_member.specs.Snapshots.{IsRestoredFrom, IsSnapshotOf, RestoresEntry}
use Rattle.camp_member.specs.Telling.{AreAnsweredFrom, MemberAdvances, AnsweredRequest, accepted_in}
use Rattle.camp_member.specs.Wanting.{FindsAt, IsStopped}
use Rattle.camp_member.specs.declared.requests.NoReply.{NoReply}
use Rattle.camp_member.specs.declared.requests.Request.{Request}

-- the entries of a seat that count have the numbers 1, 2, .. in order, so no tag counts twice
abbrev pub EachTagCountsOnce : Type 0 → Type 0
EachTagCountsOnce Call =
    (log : List (Option (Tagged Call))) (seat index : ℕ) (entry : Tagged Call)
    → slice_get (of_seat seat (counted_entries log)) index ≡ Some entry → entry.number ≡ index + 1

-- every reason for no reply is allowed
abbrev pub AnyReason : {Call : Type 0} → Request Call → NoReply → Type 0
AnyReason request why = Unit {0}

module _ {State Call Reply : Type 0} (object : Sequential State Call Reply) where
  -- a reader that has read nothing is at the start of every log
  abbrev pub NothingIsRead : Type 0
  NothingIsRead = (reading : Reading State Call) → reading.index ≡ 0 → reading.history ≡ [] → reading.numbers ≡ [] → IsReadingOf object [] reading

  -- a reader of a log, after it has read the entry that comes next, is a reader of the longer log
  abbrev pub ReadsOn : Type 0
  ReadsOn =
      (log : List (Option (Tagged Call))) (old new : Reading State Call) (entry : Tagged Call) (replies : List Reply)
      → IsReadingOf object log old → ReadsEntry object old entry replies new → IsReadingOf object (log ++ Some entry ∷ []) new

  -- a log followed by what is foreign to a reader of that log is not readable
  abbrev pub StopsAtForeign : Type 0
  StopsAtForeign =
      (log : List (Option (Tagged Call))) (reading : Reading State Call) (found : Option (Tagged Call))
      → IsReadingOf object log reading → IsForeign (number_in reading.numbers) found → ¬ (IsReadable (log ++ found ∷ []))

  -- readers of one log have the same history
  abbrev pub ReadersAgree : Type 0
  ReadersAgree =
      (log : List (Option (Tagged Call))) (one two : Reading State Call)
      → IsReadingOf object log one → IsReadingOf object log two → one.history ≡ two.history

  -- if two readers have read two prefixes of one log, the history of one of them is a prefix of that of the other
  abbrev pub ReadersShareOneHistory : Type 0
  ReadersShareOneHistory =
      (log first second : List (Option (Tagged Call))) (one two : Reading State Call)
      → IsBeginning first log → IsBeginning second log → IsReadingOf object first one → IsReadingOf object second two
      → IsBeginning one.history two.history ⊎ IsBeginning two.history one.history

  -- a reader that has read nothing was restored from no entry
  abbrev pub NothingIsRestored : Type 0
  NothingIsRestored = (reading : Reading State Call) → reading.index ≡ 0 → reading.history ≡ [] → reading.numbers ≡ [] → IsRestoredFrom object [] 0 reading

  -- a reader that restores one more entry was restored from that entry, too
  abbrev pub RestoresOn : Type 0
  RestoresOn =
      (entries : List (Tagged Call)) (at index : ℕ) (old new : Reading State Call) (entry : Tagged Call)
      → IsRestoredFrom object entries at old → RestoresEntry object index old entry new → IsRestoredFrom object (entries ++ entry ∷ []) (index + 1) new

  -- a reader that was restored from a snapshot of a log, and continues at the end of that log, has read the log
  abbrev pub SnapshotStandsForLog : Type 0
  SnapshotStandsForLog =
      (log : List (Option (Tagged Call))) (entries : List (Tagged Call)) (reading : Reading State Call)
      → IsSnapshotOf object log entries → IsRestoredFrom object entries (length log) reading → IsReadingOf object log reading

  -- the entries of a log that count are a snapshot of it
  abbrev pub CountedAreSnapshot : Type 0
  CountedAreSnapshot = (log : List (Option (Tagged Call))) → IsReadable log → IsSnapshotOf object log (counted_entries log)

  -- the accepted calls of a seat are added to the history, each once, in the order of the requests
  abbrev pub AcceptedOnce : Type 0
  AcceptedOnce =
      (seat : ℕ) (seen : List (ℕ × Call)) (told : List (AnsweredRequest Call Reply)) (now : List (ℕ × Call))
      → AreAnsweredFrom object AnyReason seat seen told now → own seat now ≡ own seat seen ++ accepted_in object told

  -- two advances of a member one after the other are one advance, with the answers of both
  abbrev pub AdvancesOn : Type 0
  AdvancesOn =
      (one two three : Membership State Call Reply)
      → IsLegal object two.reading.history → MemberAdvances object AnyReason one two → MemberAdvances object AnyReason two three → MemberAdvances object AnyReason one three

  -- a member that advances while only some reasons for no reply are allowed also advances if every reason is allowed
  pub record AdvancesAnyhow : Type 0 where
    pub replies : (old new : Membership State Call Reply) → MemberAdvances object (λ _ _. ⊥) old new → MemberAdvances object AnyReason old new
    pub stopped : (member old new : Membership State Call Reply) → MemberAdvances object (IsStopped object member) old new → MemberAdvances object AnyReason old new
    pub one_reason : (reason : NoReply) (old new : Membership State Call Reply) → MemberAdvances object (λ _ why. why ≡ reason) old new → MemberAdvances object AnyReason old new

  -- a member that has read a log and then finds what comes next has afterwards read the longer log; one that finds what
  -- it has read already is unchanged
  abbrev pub FindsOn : Type 0
  FindsOn =
      (log : List (Option (Tagged Call))) (old new : Membership State Call Reply) (index : ℕ) (found : Option (Tagged Call))
      → IsReadingOf object log old.reading → FindsAt object old index found (Ok tt) new
      → ((index < length log) × (new ≡ old)) ⊎ ((index ≡ length log) × IsReadingOf object (log ++ found ∷ []) new.reading)

-- no answer of a member is Busy
abbrev pub NobodyIsBusy : Type 0 → Type 0
NobodyIsBusy Reply = (answer : Result Reply NoReply) → IsNotBusy (as_answer answer)
