-- Comparing a history with answers, entry by entry: each section has an index, which is after its last call that was
-- found in the history.
use Rattle.std.specs.Prelude.{◌≡◌, ℕ, ◌<◌, List, ◌∷◌, ◌++◌, length, drop, slice_index_or, slice_set, Option}
use Rattle.camp_clients.specs.Positions.{own_at, done_at}
use Rattle.camp_clients.specs.Runs.{section_of}

-- the accepted calls of a seat's section, from an index of the section on
abbrev pub left_from : {Call Answer : Type 0} → (Answer → Option ℕ) → List (List Call) → List (List Answer)
    → (seat from : ℕ) → List (ℕ × Call)
left_from reported_position sections answers seat from =
    done_at reported_position (drop from (section_of sections seat)) (drop from (section_of answers seat))

-- the accepted calls of each section are those found so far, in a prefix of the history, followed by those not found
-- yet
abbrev pub AreFoundUpTo : {Call Answer : Type 0} → (Answer → Option ℕ) → List (List Call) → List (List Answer)
    → List (ℕ × Call) → List ℕ → Type 0
AreFoundUpTo reported_position sections answers prefix indexes = (seat : ℕ) → seat < length sections →
    done_at reported_position (section_of sections seat) (section_of answers seat)
    ≡ own_at seat 0 prefix ++ left_from reported_position sections answers seat (slice_index_or indexes seat 0)

-- the entry at a position is the first accepted call of its section that is not found yet; `after` has the index after
-- that call
pub record Matches {Call Answer : Type 0} (reported_position : Answer → Option ℕ) (sections : List (List Call))
    (answers : List (List Answer)) (at : ℕ) (entry : ℕ × Call) (indexes after : List ℕ) : Type 0 where
  pub is_section : entry.0 < length sections
  pub index : ℕ
  pub next : left_from reported_position sections answers entry.0 (slice_index_or indexes entry.0 0)
      ≡ (at, entry.1) ∷ left_from reported_position sections answers entry.0 index
  pub moves : after ≡ slice_set indexes entry.0 index

-- the entry at a position is not the first accepted call of its section that is not found yet
abbrev pub Differs : {Call Answer : Type 0} → (Answer → Option ℕ) → List (List Call) → List (List Answer)
    → (at : ℕ) → ℕ × Call → List ℕ → Type 0
Differs {Call} reported_position sections answers at entry indexes = entry.0 < length sections → (rest : List (ℕ × Call)) →
    ¬ (left_from reported_position sections answers entry.0 (slice_index_or indexes entry.0 0) ≡ (at, entry.1) ∷ rest)
