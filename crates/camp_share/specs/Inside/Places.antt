-- The positions of keys in sorted entries.
use Rattle.std.specs.Prelude.{◌≡◌, ℕ, zero, suc, ◌+◌, ◌-◌, ◌<◌, ◌≤◌, Bool, false, List, [], ◌∷◌, Option, None, Some, length, slice_get, slice_index_or, take}
use Rattle.std.specs.Ordering.{is_lt}
use Rattle.std.specs.declared.cmp.Ordering.{Ordering}
use Rattle.std.specs.declared.cmp.Ordering.TheVariants.{Less}
use Rattle.std.specs.declared.vec.Vec.{Vec}
use Rattle.camp_share.specs.Inside.Parts.{joined, offset, IsPlace}

-- the entry at this index has the key
abbrev pub IsAt : {K X : Type 0} → List (K × X) → K → ℕ → Type 0
IsAt [] key place = ⊥
IsAt (entry ∷ rest) key zero = entry.0 ≡ key
IsAt (entry ∷ rest) key (suc place) = IsAt rest key place

-- the key is not in the list and would be inserted at this index: it is above all keys before the index, and below the
-- key at it
abbrev pub WouldBeAt : {K X : Type 0} → (K → K → Ordering) → List (K × X) → K → ℕ → Type 0
WouldBeAt order [] key zero = Unit {0}
WouldBeAt order [] key (suc place) = ⊥
WouldBeAt order (entry ∷ rest) key zero = order key entry.0 ≡ Less
WouldBeAt order (entry ∷ rest) key (suc place) = (order entry.0 key ≡ Less) × WouldBeAt order rest key place

-- a key is above the keys of all entries
abbrev pub IsAbove : {K X : Type 0} → (K → K → Ordering) → List (K × X) → K → Type 0
IsAbove order [] key = Unit {0}
IsAbove order (entry ∷ rest) key = (order entry.0 key ≡ Less) × IsAbove order rest key

-- the entry at a position in a chunk has the key
abbrev pub IsInPart : {K X Z : Type 0} → List (Vec (K × X) Z) → K → ℕ → ℕ → Type 0
IsInPart {K} {X} {Z} parts key index place =
    (index < length parts)
    × ((part : Vec (K × X) Z) → part ≡ slice_index_or parts index part → IsAt part.items key place)
    × IsAt (joined parts) key (offset parts index place)
    × IsPlace parts index (place + 1)

-- the key would be inserted at a position in a chunk
abbrev pub WouldBeInPart : {K X Z : Type 0} → (K → K → Ordering) → List (Vec (K × X) Z) → K → ℕ → ℕ → Type 0
WouldBeInPart order parts key index place =
    IsPlace parts index place × WouldBeAt order (joined parts) key (offset parts index place)

-- there is a value, and it passes a test
abbrev pub passes : {A : Type 0} → (A → Bool) → Option A → Bool
passes test None = false
passes test (Some x) = test x

-- there are entries, and the last one has a key below the given one
abbrev pub ends_below : {K X : Type 0} → (K → K → Ordering) → List (K × X) → K → Bool
ends_below order entries key = passes (λ entry. is_lt (order entry.0 key)) (slice_get entries (length entries - 1))

-- the item before index `low`, if there is one, has the first property; the item at index `high`, if there is one, has
-- the second
abbrev pub IsBorder : {A : Type 0} → (A → Type 0) → (A → Type 0) → List A → ℕ → ℕ → Type 0
IsBorder {A} Passed Stops items low high =
    ((item : A) → 0 < low → item ≡ slice_index_or items (low - 1) item → Passed item)
    × ((item : A) → high < length items → item ≡ slice_index_or items high item → Stops item)

-- the first chunk with a key that is not below `key`, and its index; or, if all keys are below, no chunk and the number
-- of chunks
pub record IsPartFor {K X Z : Type 0} (order : K → K → Ordering) (parts : List (Vec (K × X) Z)) (key : K) (index : ℕ)
    (part : Option (Vec (K × X) Z)) : Type 0 where
  pub within : index ≤ length parts
  pub read : part ≡ slice_get parts index
  pub before : IsAbove order (joined (take index parts)) key
  pub reached : index < length parts → ¬ (IsAbove order (joined (take (index + 1) parts)) key)
