-- Snapshots of a log: entries from which a reader continues without the others.
use Rattle.std.specs.Prelude.{◌≡◌, ◌≢◌, ◌<◌, ◌≤◌, ◌+◌, ◌⊎◌, ℕ, true, false, List, [], ◌∷◌, Option, None, Some, Result, Ok, Err, IfSome, IsSome}
use Rattle.std.specs.List.{flat_map}
use Rattle.camp_object.specs.Objects.{Sequential}
use Rattle.camp_member.specs.Decisions.{accepted_after}
use Rattle.camp_member.specs.Entries.{Tagged, IsEntry, IsReadable, counted_entries, last_of, number_in, of_seat, seated_calls}
use Rattle.camp_member.specs.Logs.{lawful_part}
use Rattle.camp_member.specs.Members.{Membership}
use Rattle.camp_member.specs.Readings.{DecidesEntry, Reading}
use Rattle.camp_member.specs.declared.faults.ReadFault.{ReadFault}
use Rattle.camp_member.specs.declared.faults.ReadFault.TheVariants.{Memory, OutOfOrder, Foreign}

-- the number of the last of these entries; this number if there are none
abbrev pub last_number : {Call : Type 0} → ℕ → List (Tagged Call) → ℕ
last_number number [] = number
last_number number (entry ∷ entries) = last_number entry.number entries

-- what was found can follow in a snapshot: it is an entry that a member may append, and its number is greater than the
-- last one of its seat
abbrev pub CanFollow : {Call : Type 0} → (ℕ → ℕ) → Option (Tagged Call) → Type 0
CanFollow last None = ⊥
CanFollow last (Some entry) = IsEntry entry × (last entry.seat < entry.number)

-- what was found is an entry of this seat
abbrev pub IsOfSeat : {Call : Type 0} → ℕ → Option (Tagged Call) → Type 0
IsOfSeat seat None = ⊥
IsOfSeat seat (Some entry) = entry.seat ≡ seat

-- why nothing was restored at this index: out of memory, the index was read, or what was found there can't follow
abbrev pub IsRestoreFault : {State Call : Type 0} → Reading State Call → ℕ → Option (Tagged Call) → ReadFault → Type 0
IsRestoreFault old index found Memory = Unit {0}
IsRestoreFault old index found (OutOfOrder next) = (next ≡ old.index) × (index < next)
IsRestoreFault old index found (Foreign at) = (at ≡ index) × (old.index ≤ index) × ¬ (CanFollow (number_in old.numbers) found)

module _ {State Call Reply : Type 0} (object : Sequential State Call Reply) where
  -- these entries are a snapshot of a log: their calls give its history, and the last numbers of their seats are those
  -- of the entries of the log that count
  pub record IsSnapshotOf (log : List (Option (Tagged Call))) (entries : List (Tagged Call)) : Type 0 where
    pub readable : IsReadable log
    pub history : accepted_after object [] (flat_map seated_calls entries) ≡ lawful_part object log
    pub last : (seat : ℕ) → last_number 0 (of_seat seat entries) ≡ last_of (counted_entries log) seat

  -- a reader that was restored from these entries, and continues at this index
  pub record IsRestoredFrom (entries : List (Tagged Call)) (index : ℕ) (reading : Reading State Call) : Type 0 where
    pub at : reading.index ≡ index
    pub history : reading.history ≡ accepted_after object [] (flat_map seated_calls entries)
    pub last : (seat : ℕ) → number_in reading.numbers seat ≡ last_number 0 (of_seat seat entries)

  -- an entry of a snapshot is restored, at its index in the log: entries before it may be missing
  pub record RestoresEntry (index : ℕ) (old : Reading State Call) (entry : Tagged Call) (new : Reading State Call) : Type 0 where
    pub can : CanFollow (number_in old.numbers) (Some entry)
    pub after : old.index ≤ index
    pub replies : List Reply
    pub decides : DecidesEntry object old entry replies new
    pub first : new.first ≡ old.first
    pub at : new.index ≡ index + 1

  -- an entry of another seat is restored, and nothing else of the member changes
  pub record RestoresOther (index : ℕ) (old : Membership State Call Reply) (entry : Tagged Call) (new : Membership State Call Reply) : Type 0 where
    pub other : entry.seat ≢ old.seat
    pub restores : RestoresEntry index old.reading entry new.reading
    pub rest : new ≡ record old { reading = new.reading }

  -- a member restores what a snapshot has at an index; after a fault it is unchanged
  abbrev pub RestoresAt : Membership State Call Reply → ℕ → Option (Tagged Call) → Result (Unit {0}) ReadFault → Membership State Call Reply → Type 0
  RestoresAt old index found (Ok done) new = (old.is_stopped ≡ false) × IfSome found (λ entry. RestoresOther index old entry new) × IsSome found
  RestoresAt old index found (Err Memory) new = new ≡ old
  RestoresAt old index found (Err (OutOfOrder next)) new = (next ≡ old.reading.index) × (index < next) × (new ≡ old)
  RestoresAt old index found (Err (Foreign at)) new =
      (at ≡ index) × (new ≡ old)
      × ((old.is_stopped ≡ true) ⊎ IsOfSeat old.seat found ⊎ ((old.reading.index ≤ index) × ¬ (CanFollow (number_in old.reading.numbers) found)))
