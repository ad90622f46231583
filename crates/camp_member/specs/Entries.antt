-- Entries of a log, and which of them count.
use Rattle.std.specs.Prelude.{◌≡◌, ℕ, ◌+◌, ◌<◌, ◌≤◌, ◌==◌, List, [], ◌∷◌, ◌++◌, length, map, Option, None, Some, if◌then◌else◌}
use Rattle.std.specs.List.{filter, flat_map}
use Rattle.std.specs.Option.{unwrap_or}
use Rattle.std.specs.Map.{lookup}
use Rattle.std.specs.BTreeMap.{is_at}
use Rattle.std.specs.Ordering.{nat_cmp}

-- an entry: the seat that appended it, its number among the entries of that seat, and its calls. Seat and number are
-- its tag
pub record Tagged (Call : Type 0) : Type 0 where
  pub seat : ℕ
  pub number : ℕ
  pub calls : List Call

-- the number of a seat in a table; 0 if the table has none
abbrev pub number_in : List (ℕ × ℕ) → ℕ → ℕ
number_in numbers seat = unwrap_or (lookup (is_at (nat_cmp seat)) numbers) 0

-- the most calls of an entry
abbrev pub most_calls_of_entry : ℕ
most_calls_of_entry = 256

module _ {Call : Type 0} where
  -- a member may append the entry: its number is at least 1, and it has 1 to 256 calls
  pub record IsEntry (entry : Tagged Call) : Type 0 where
    pub numbered : 0 < entry.number
    pub some : 0 < length entry.calls
    pub few : length entry.calls ≤ most_calls_of_entry

  -- the entry has the next number of its seat: one more than the last number in the table
  abbrev pub Counts : (ℕ → ℕ) → Tagged Call → Type 0
  Counts last entry = IsEntry entry × (entry.number ≡ last entry.seat + 1)

  -- an entry with this tag counted before
  abbrev pub IsRepeated : (ℕ → ℕ) → Tagged Call → Type 0
  IsRepeated last entry = IsEntry entry × (entry.number ≤ last entry.seat)

  -- what comes next in the log is foreign: no entry, or one that neither counts nor is a repetition
  abbrev pub IsForeign : (ℕ → ℕ) → Option (Tagged Call) → Type 0
  IsForeign last None = Unit {0}
  IsForeign last (Some entry) = (¬ (Counts last entry)) × (¬ (IsRepeated last entry))

  -- the entries of a seat, in order
  abbrev pub of_seat : ℕ → List (Tagged Call) → List (Tagged Call)
  of_seat seat entries = filter (λ entry. entry.seat == seat) entries

  -- the number of entries of a seat
  abbrev pub last_of : List (Tagged Call) → ℕ → ℕ
  last_of entries seat = length (of_seat seat entries)

  -- the entries that count so far, followed by what comes next in the log if that has the next number of its seat
  abbrev pub counted_with : List (Tagged Call) → Option (Tagged Call) → List (Tagged Call)
  counted_with before None = before
  counted_with before (Some entry) = if entry.number == last_of before entry.seat + 1 then before ++ entry ∷ [] else before

  -- the entries that count so far, followed by those of the rest of the log that count
  abbrev pub counted_after : List (Tagged Call) → List (Option (Tagged Call)) → List (Tagged Call)
  counted_after before [] = before
  counted_after before (found ∷ log) = counted_after (counted_with before found) log

  -- the entries of a log that count, in order: each has the next number of its seat
  abbrev pub counted_entries : List (Option (Tagged Call)) → List (Tagged Call)
  counted_entries log = counted_after [] log

  -- nothing in the log is foreign
  abbrev pub IsReadableAfter : List (Tagged Call) → List (Option (Tagged Call)) → Type 0
  IsReadableAfter before [] = Unit {0}
  IsReadableAfter before (found ∷ log) = (¬ (IsForeign (last_of before) found)) × IsReadableAfter (counted_with before found) log

  abbrev pub IsReadable : List (Option (Tagged Call)) → Type 0
  IsReadable log = IsReadableAfter [] log

  -- the calls of an entry, each with its seat
  abbrev pub seated_calls : Tagged Call → List (ℕ × Call)
  seated_calls entry = map (λ call. (entry.seat, call)) entry.calls

  -- the calls of a log, in order, each with its seat: those of the entries that count
  abbrev pub requests : List (Option (Tagged Call)) → List (ℕ × Call)
  requests log = flat_map seated_calls (counted_entries log)
