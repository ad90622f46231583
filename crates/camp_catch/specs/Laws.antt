-- The laws of catches and of lists of them.
use Rattle.std.specs.Prelude.{◌≡◌, ◌⊎◌, ℕ, List, [], ◌∷◌, ◌++◌, map, Contains}
use Rattle.camp_base.specs.Trees.{Files}
use Rattle.camp_prim.specs.declared.labels.Key.{Key}
use Rattle.camp_catch.specs.Arranging.{Arrange, Align}
use Rattle.camp_catch.specs.Catches.{Fits, FitsAll, catch_key}
use Rattle.camp_catch.specs.Commuting.{CommuteCatch}
use Rattle.camp_catch.specs.Merging.{MergeCatch}
use Rattle.camp_catch.specs.MergingLists.{MergeLists}
use Rattle.camp_catch.specs.declared.catches.Catch.{Catch}

-- commuting keeps effects: if j and then k fit, so do k' and then j', and both orders lead to the same tree
abbrev pub CommuteKeepsEffects : Type 0
CommuteKeepsEffects =
    (j k k' j' : Catch) → CommuteCatch j k k' j' → (old between new : Files) → Fits j old between → Fits k between new →
    (other : Files) × Fits k' old other × Fits j' other new

-- merging keeps effects: if j and k fit the same tree, k' fits after j and j' after k, and both orders lead
-- to the same tree
abbrev pub MergeKeepsEffects : Type 0
MergeKeepsEffects =
    (j k k' j' : Catch) → MergeCatch j k k' j' → (old left right : Files) → Fits j old left → Fits k old right →
    (new : Files) × Fits k' left new × Fits j' right new

-- merging does not depend on which comes first
abbrev pub CatchMergeIsSymmetric : Type 0
CatchMergeIsSymmetric = (j k k' j' : Catch) → MergeCatch j k k' j' → MergeCatch k j j' k'

-- commuting and merging have at most one result
abbrev pub CatchCommuteIsUnique : Type 0
CatchCommuteIsUnique =
    (j k k' j' l i : Catch) → CommuteCatch j k k' j' → CommuteCatch j k l i → (k' ≡ l) × (j' ≡ i)

abbrev pub MergeIsUnique : Type 0
MergeIsUnique = (j k k' j' l i : Catch) → MergeCatch j k k' j' → MergeCatch j k l i → (k' ≡ l) × (j' ≡ i)

-- a list that is arranged, aligned or merged still fits its tree, and leads to the same tree
pub record ListsKeepEffects : Type 0 where
  pub arranged :
      (names : List (List ℕ)) (list first rest : List Catch) → Arrange names list first rest → (old new : Files) →
      FitsAll list old new → (between : Files) × FitsAll first old between × FitsAll rest between new
  pub aligned :
      (order : List Key) (list aligned : List Catch) → Align order list aligned → (old new : Files) →
      FitsAll list old new → FitsAll aligned old new
  pub merged :
      (p q p' q' : List Catch) → MergeLists p q p' q' → (old left right : Files) → FitsAll q old left →
      FitsAll p old right → (new : Files) × FitsAll p' left new × FitsAll q' right new

-- the absolute labels of a list, in order
abbrev pub keys_of : List Catch → List Key
keys_of list = map catch_key list

-- `first` has the keys of the patches with these names, and `rest` the others, both in the order of the list
abbrev pub KeysPart : List (List ℕ) → List Key → List Key → List Key → Type 0
KeysPart names [] first rest = (first ≡ []) × (rest ≡ [])
KeysPart names (key ∷ keys) first rest =
    (Contains names key.name × ((t : List Key) × KeysPart names keys t rest × (first ≡ key ∷ t)))
    ⊎ ((¬ (Contains names key.name)) × ((t : List Key) × KeysPart names keys first t × (rest ≡ key ∷ t)))

-- `aligned` has the keys of `order` first, in that order, and then the other keys in the order of `keys`
abbrev pub KeysAlign : List Key → List Key → List Key → Type 0
KeysAlign [] keys aligned = aligned ≡ keys
KeysAlign (key ∷ order) keys aligned =
    (before : List Key) × (after : List Key) × (t : List Key)
    × (keys ≡ before ++ key ∷ after) × KeysAlign order (before ++ after) t × (aligned ≡ key ∷ t)

-- commuting and merging keep absolute labels; arranging and aligning permute them; merging lists keeps the labels of
-- each list, in their order
pub record KeepLabels : Type 0 where
  pub commuted :
      (j k k' j' : Catch) → CommuteCatch j k k' j' → (catch_key k' ≡ catch_key k) × (catch_key j' ≡ catch_key j)
  pub merged :
      (j k k' j' : Catch) → MergeCatch j k k' j' → (catch_key k' ≡ catch_key k) × (catch_key j' ≡ catch_key j)
  pub arranged :
      (names : List (List ℕ)) (list first rest : List Catch) → Arrange names list first rest →
      KeysPart names (keys_of list) (keys_of first) (keys_of rest)
  pub aligned :
      (order : List Key) (list aligned : List Catch) → Align order list aligned →
      KeysAlign order (keys_of list) (keys_of aligned)
  pub merged_lists :
      (p q p' q' : List Catch) → MergeLists p q p' q' → (keys_of p' ≡ keys_of p) × (keys_of q' ≡ keys_of q)
