-- The chain of cells as a list of entries, oldest first, and the words of the row that represent it.
use Rattle.std.specs.Prelude.{◌≡◌, ℕ, ◌+◌, ◌*◌, ◌<◌, ◌==◌, List, [], ◌∷◌, ◌++◌, length, filter}
use Rattle.camp_row.specs.declared.entries.Entry.{Entry}

-- one list is a prefix of another
pub record IsPrefix {A : Type 0} (prefix whole : List A) : Type 0 where
  pub rest : List A
  pub is : prefix ++ rest ≡ whole

-- one list is a proper prefix of another
pub record IsProperPrefix {A : Type 0} (prefix whole : List A) : Type 0 where
  pub next : A
  pub rest : List A
  pub is : prefix ++ next ∷ rest ≡ whole

-- the entries of a chain that one seat published
abbrev pub own_entries : ℕ → List Entry → List Entry
own_entries seat chain = filter (λ entry. entry.seat == seat) chain

-- the number of entries of a chain that one seat published
abbrev pub entry_count : ℕ → List Entry → ℕ
entry_count seat chain = length (own_entries seat chain)

-- the cell of an entry: the n-th entry of seat s, counted from 0, has cell n * seats + s
abbrev pub cell_of : ℕ → List Entry → Entry → ℕ
cell_of seats before entry = entry_count entry.seat before * seats + entry.seat

-- the word that names the last cell: 0 if there is none, else its number plus 1
abbrev pub head_after : ℕ → List Entry → ℕ → List Entry → ℕ
head_after seats before word [] = word
head_after seats before word (entry ∷ later) =
    head_after seats (before ++ entry ∷ []) (cell_of seats before entry + 1) later

abbrev pub head_word : ℕ → List Entry → ℕ
head_word seats chain = head_after seats [] 0 chain

-- each entry is of a seat of the row, and no seat has more entries than cells
abbrev pub FitsRow : ℕ → ℕ → List Entry → Type 0
FitsRow seats per_seat chain = (before : List Entry) (entry : Entry) (after : List Entry) → before ++ entry ∷ after ≡ chain
    → (entry.seat < seats) × (entry_count entry.seat before < per_seat)
