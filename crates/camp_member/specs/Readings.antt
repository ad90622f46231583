-- What a reader has read of a log.
use Rattle.std.specs.Prelude.{◌≡◌, ◌≢◌, ℕ, ◌+◌, ◌==◌, ◌⊎◌, List, [], length, Option, if◌then◌else◌}
use Rattle.camp_object.specs.Objects.{Sequential}
use Rattle.camp_member.specs.Decisions.{AreDecided}
use Rattle.camp_member.specs.Entries.{Tagged, Counts, IsForeign, IsRepeated, IsReadable, counted_entries, last_of, number_in}
use Rattle.camp_member.specs.Logs.{lawful_part}
use Rattle.camp_member.specs.declared.faults.ReadFault.{ReadFault}
use Rattle.camp_member.specs.declared.faults.ReadFault.TheVariants.{Memory, OutOfOrder, Foreign}

-- a reader: the initial state of its history, how many entries it has read, its history, and for each seat the number
-- of its last entry that counted
pub record Reading (State Call : Type 0) : Type 0 where
  pub first : State
  pub index : ℕ
  pub history : List (ℕ × Call)
  pub numbers : List (ℕ × ℕ)

-- why nothing was read at this index
abbrev pub IsReadFault : {State Call : Type 0} → Reading State Call → ℕ → Option (Tagged Call) → ReadFault → Type 0
IsReadFault old index found Memory = Unit {0}
IsReadFault old index found (OutOfOrder next) = (next ≡ old.index) × (index ≢ old.index)
IsReadFault old index found (Foreign at) = (at ≡ old.index) × (at ≡ index) × IsForeign (number_in old.numbers) found

module _ {State Call Reply : Type 0} (object : Sequential State Call Reply) where
  -- a reader has read a log: the log is readable; the reader has the index after it, its lawful part, and the last
  -- number of each seat
  pub record IsReadingOf (log : List (Option (Tagged Call))) (reading : Reading State Call) : Type 0 where
    pub readable : IsReadable log
    pub index : reading.index ≡ length log
    pub history : reading.history ≡ lawful_part object log
    pub last : (seat : ℕ) → number_in reading.numbers seat ≡ last_of (counted_entries log) seat

  -- the calls of an entry are decided one after another, and its number is then the last one of its seat
  pub record DecidesEntry (old : Reading State Call) (entry : Tagged Call) (replies : List Reply) (new : Reading State Call) : Type 0 where
    pub decided : AreDecided object old.history entry.seat entry.calls replies new.history
    pub last : (seat : ℕ) → number_in new.numbers seat ≡ (if seat == entry.seat then entry.number else number_in old.numbers seat)

  -- an entry that counts is read
  pub record ReadsNew (old : Reading State Call) (entry : Tagged Call) (replies : List Reply) (new : Reading State Call) : Type 0 where
    pub counts : Counts (number_in old.numbers) entry
    pub decides : DecidesEntry old entry replies new

  -- an entry whose tag counted before is skipped
  pub record PassesOver (old : Reading State Call) (entry : Tagged Call) (replies : List Reply) (new : Reading State Call) : Type 0 where
    pub repeated : IsRepeated (number_in old.numbers) entry
    pub none : replies ≡ []
    pub history : new.history ≡ old.history
    pub numbers : new.numbers ≡ old.numbers

  -- the entry that comes next in the log is read: its calls are decided, or it is skipped as a repetition
  pub record ReadsEntry (old : Reading State Call) (entry : Tagged Call) (replies : List Reply) (new : Reading State Call) : Type 0 where
    pub first : new.first ≡ old.first
    pub index : new.index ≡ old.index + 1
    pub effect : ReadsNew old entry replies new ⊎ PassesOver old entry replies new
