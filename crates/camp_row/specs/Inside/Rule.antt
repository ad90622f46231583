-- The invariant of the row: what its words and the views of all seats have in common after every atomic step.
use Rattle.std.specs.Prelude.{◌≡◌, ℕ, ◌+◌, ◌*◌, ◌<◌, ◌≤◌, List, ◌∷◌, ◌++◌, length, slice_index, sum_by, All}
use mathlib.Core.Option.{some}
use lib.ListN.{get_elem?}
use Rattle.camp_row.specs.declared.entries.Entry.{Entry}
use Rattle.camp_row.specs.declared.knowledge.Knowledge.{Knowledge}
use Rattle.camp_row.specs.Chains.{IsPrefix, own_entries, entry_count, cell_of, head_word, FitsRow}
use Rattle.camp_row.specs.Inside.Parts.{Part, parts_of}

-- word 0 is the head; of the two words of a cell the first names its parent, and the second is the index of its entry
abbrev pub parent_word : ℕ → ℕ
parent_word cell = 1 + 2 * cell

abbrev pub index_word : ℕ → ℕ
index_word cell = 2 + 2 * cell

-- the two words of a cell
pub record HasCell (words : List ℕ) (cell parent index : ℕ) : Type 0 where
  pub parent_is : slice_index words (parent_word cell) ≡ parent
  pub index_is : slice_index words (index_word cell) ≡ index

-- each cell of the chain names the one before it, and has the index of its entry
abbrev pub IsLinked : ℕ → List ℕ → List Entry → Type 0
IsLinked seats words chain =
    (before : List Entry) (entry : Entry) (after : List Entry) → before ++ entry ∷ after ≡ chain
    → HasCell words (cell_of seats before entry) (head_word seats before) entry.index

-- what holds of one seat: it has seen all its own entries; its next cell has its draft, and its later cells are empty
pub record Knows (seats per_seat : ℕ) (words : List ℕ) (chain : List Entry) (part : Part) : Type 0 where
  pub sizes : (part.seats ≡ seats) × (part.per_seat ≡ per_seat) × (part.number < seats)
  pub seen : IsPrefix part.seen chain
  pub ahead : IsPrefix part.ahead chain
  pub own_seen : own_entries part.number chain ≡ own_entries part.number part.seen
  pub draft :
      entry_count part.number part.seen < per_seat
      → HasCell words (entry_count part.number part.seen * seats + part.number) part.parent part.index
  pub empty :
      (nth : ℕ) → entry_count part.number part.seen < nth → nth < per_seat
      → HasCell words (nth * seats + part.number) 0 0

-- the words of the head and of the cells represent a chain; each seat has at most one part in the views, and knows a
-- prefix of that chain
pub record IsRuled (seats per_seat : ℕ) (words : List ℕ) (views : List Knowledge) : Type 0 where
  pub chain : List Entry
  pub sized : length words ≡ 1 + 2 * (per_seat * seats)
  pub head : slice_index words 0 ≡ head_word seats chain
  pub linked : IsLinked seats words chain
  pub fits : FitsRow seats per_seat chain
  pub one_each : (number : ℕ) → sum_by (λ (view : Knowledge). parts_of number view.parts) views ≤ 1
  pub known :
      (seat : ℕ) (view : Knowledge) → get_elem? views seat ≡ some view
      → All (Knows seats per_seat words chain) view.parts
