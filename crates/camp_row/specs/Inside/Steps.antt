-- The six kinds of atomic steps, and what seats learn by each.
use Rattle.std.specs.Prelude.{◌≡◌, ℕ, ◌==◌, List, [], ◌∷◌, ◌++◌, map, take, drop, All, MatchBool, ◌≤◌}
use Rattle.camp_row.specs.declared.entries.Entry.{Entry}
use Rattle.camp_row.specs.declared.knowledge.Knowledge.{Knowledge}
use Rattle.camp_row.specs.Chains.{IsPrefix, IsProperPrefix, cell_of, head_word}
use Rattle.camp_row.specs.Inside.Parts.{Part, part_of, parts_of, finds, IsSoundPart}
use Rattle.camp_row.specs.Inside.Rule.{parent_word, index_word}

-- a seat finds the chain: the head names the chain's last cell; the chain has only grown, and the part of the seat
-- keeps its invariant
pub record SeatFindsChain (found : ℕ) (chain : List Entry) (part : Part) : Type 0 where
  pub named : found ≡ head_word part.seats chain
  pub grows : IsPrefix part.ahead chain
  pub sound : IsSoundPart (finds chain part)

-- a load of the head: each seat of the view, which has at most one part in it, finds the chain
pub record LoadedHead (found : ℕ) (old new : List Part) : Type 0 where
  pub chain : List Entry
  pub one_each : (number : ℕ) → parts_of number old ≤ 1
  pub each : All (SeatFindsChain found chain) old
  pub is : new ≡ map (finds chain) old

-- a word was loaded from a cell whose entry the seat has found but not seen: it has the value that represents that
-- entry of the chain
abbrev pub Reads : ℕ → ℕ → Part → Type 0
Reads word found part =
    (before : List Entry) (entry : Entry) (after : List Entry) → before ++ entry ∷ after ≡ part.ahead
    → (word ≡ parent_word (cell_of part.seats before entry) → found ≡ head_word part.seats before)
    × (word ≡ index_word (cell_of part.seats before entry) → found ≡ entry.index)

-- a load of a parent word or an index word that adds no entry to what the seat has seen
abbrev pub Walked : ℕ → ℕ → List Part → List Part → Type 0
Walked word found old new = (new ≡ old) × Reads word found (part_of old)

-- a load of the index word of the cell after the last that the seat has seen: the seat has then seen one more entry
pub record Advanced (found : ℕ) (old new : List Part) : Type 0 where
  pub next : IsProperPrefix (part_of old).seen (part_of old).ahead
  pub index : found ≡ next.next.index
  pub is : new ≡ (record (part_of old) { seen = (part_of old).seen ++ next.next ∷ [] }) ∷ []

-- a store to the parent word of the seat's next cell, which is not in the chain
abbrev pub StoredParent : ℕ → List Part → List Part → Type 0
StoredParent stored old new = new ≡ (record (part_of old) { parent = stored }) ∷ []

-- a store to the index word of the seat's next cell
abbrev pub StoredIndex : ℕ → List Part → List Part → Type 0
StoredIndex stored old new = new ≡ (record (part_of old) { index = stored }) ∷ []

-- the entry that a seat's next cell becomes when it is published
abbrev pub drafted_part : Part → Entry
drafted_part part = record { seat = part.number; index = part.index }

-- the part of a seat after its next cell was published as the last of the chain
abbrev pub won_part : Part → Part
won_part part =
    let entries = part.seen ++ drafted_part part ∷ [] in
    record part { seen = entries; ahead = entries; parent = 0; index = 0 }

-- a compare-exchange that succeeded: the chain was exactly what the seat had seen
pub record WonPart (part : Part) (new : List Part) : Type 0 where
  pub whole : part.ahead ≡ part.seen
  pub is : new ≡ won_part part ∷ []

-- a compare-exchange that failed: the chain was longer than what the seat had seen; the seat has now found that chain
pub record LostPart (found : ℕ) (part : Part) (new : List Part) : Type 0 where
  pub chain : List Entry
  pub longer : IsProperPrefix part.seen chain
  pub finds_chain : SeatFindsChain found chain part
  pub is : new ≡ finds chain part ∷ []

-- a compare-exchange of the head, from the last cell that the seat has seen to the seat's next cell
abbrev pub Tried : ℕ → ℕ → List Part → List Part → Type 0
Tried expected found old new =
    MatchBool (found == expected) (WonPart (part_of old) new) (LostPart found (part_of old) new)

-- a split: the first seat of a view gets a view of its own, and the others keep theirs
abbrev pub first_apart : Knowledge → Knowledge
first_apart view = record { parts = take 1 view.parts }

abbrev pub without_first : Knowledge → Knowledge
without_first view = record { parts = drop 1 view.parts }

-- a join of two views: the parts of `other`, then those of `view`; `other` is consumed
abbrev pub joined_views : Knowledge → Knowledge → Knowledge
joined_views view other = record { parts = other.parts ++ view.parts }

abbrev pub spent : Knowledge
spent = record { parts = [] }
