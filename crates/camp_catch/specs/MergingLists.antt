-- The merge of two lists of catches that begin in the same state.
use Rattle.std.specs.Prelude.{◌≡◌, ◌⊎◌, List, [], ◌∷◌}
use Rattle.camp_prim.specs.declared.labels.Key.{Key}
use Rattle.camp_catch.specs.Catches.{catch_key}
use Rattle.camp_catch.specs.Merging.{MergeCatch}
use Rattle.camp_catch.specs.declared.catches.Catch.{Catch}

-- one catch and a list, merged pair by pair: k' after q, and q' after k
abbrev pub MergesWithAll : List Catch → Catch → Catch → List Catch → Type 0
MergesWithAll [] k k' q' = (k' ≡ k) × (q' ≡ [])
MergesWithAll (j ∷ q) k k' q' =
    (next : Catch) × (j' : Catch) × (t : List Catch) × MergeCatch j k next j' × MergesWithAll q next k' t
    × (q' ≡ j' ∷ t)

-- two lists, merged pair by pair: p' after q, and q' after p
abbrev pub MergeLists : List Catch → List Catch → List Catch → List Catch → Type 0
MergeLists [] q p' q' = (p' ≡ []) × (q' ≡ q)
MergeLists (k ∷ p) q p' q' =
    (k' : Catch) × (beside : List Catch) × (t : List Catch)
    × MergesWithAll q k k' beside × MergeLists p beside t q' × (p' ≡ k' ∷ t)

-- j and k do not merge
abbrev pub DoNotMerge : Catch → Catch → Type 0
DoNotMerge j k = (k' j' : Catch) → ¬ (MergeCatch j k k' j')

-- one catch and a list: the absolute labels of the first pair that does not merge, `left` of the list's catch, `right`
-- of the other
abbrev pub IsBlockedWithin : List Catch → Catch → Key → Key → Type 0
IsBlockedWithin [] k left right = ⊥
IsBlockedWithin (j ∷ q) k left right =
    (DoNotMerge j k × (left ≡ catch_key j) × (right ≡ catch_key k))
    ⊎ ((next : Catch) × (j' : Catch) × MergeCatch j k next j' × IsBlockedWithin q next left right)

-- two lists: the absolute labels of the first pair that does not merge, `left` of a catch of q and `right` of one of p
abbrev pub MergeIsBlocked : List Catch → List Catch → Key → Key → Type 0
MergeIsBlocked [] q left right = ⊥
MergeIsBlocked (k ∷ p) q left right =
    IsBlockedWithin q k left right
    ⊎ ((k' : Catch) × (beside : List Catch) × MergesWithAll q k k' beside × MergeIsBlocked p beside left right)
