-- Lists of catches that are reordered by commuting neighbours.
use Rattle.std.specs.Prelude.{◌≡◌, ◌≢◌, ◌⊎◌, ℕ, List, [], ◌∷◌, ◌++◌, Contains}
use Rattle.camp_prim.specs.declared.labels.Key.{Key}
use Rattle.camp_catch.specs.Catches.{catch_key}
use Rattle.camp_catch.specs.Commuting.{CommuteCatch}
use Rattle.camp_catch.specs.declared.catches.Catch.{Catch}

-- list k <-> k' list': k, which comes after a list, is commuted to before all of it
abbrev pub CatchCommutesBeforeAll : List Catch → Catch → Catch → List Catch → Type 0
CatchCommutesBeforeAll [] k k' list' = (k' ≡ k) × (list' ≡ [])
CatchCommutesBeforeAll (j ∷ list) k k' list' =
    (coming : Catch) × (j' : Catch) × (t : List Catch)
    × CatchCommutesBeforeAll list k coming t × CommuteCatch j coming k' j' × (list' ≡ j' ∷ t)

-- j and k do not commute
abbrev pub DoNotCommute : Catch → Catch → Type 0
DoNotCommute j k = (k' j' : Catch) → ¬ (CommuteCatch j k k' j')

-- k, which comes after a list, cannot be commuted to before it: the catch with this absolute label blocks it
abbrev pub IsBlockedByKey : List Catch → Catch → Key → Type 0
IsBlockedByKey [] k on = ⊥
IsBlockedByKey (j ∷ list) k on =
    IsBlockedByKey list k on
    ⊎ ((coming : Catch) × (t : List Catch) × CatchCommutesBeforeAll list k coming t × DoNotCommute j coming × (on ≡ catch_key j))

-- a catch belongs to one of these patches
abbrev pub IsOf : List (List ℕ) → Catch → Type 0
IsOf names k = Contains names (catch_key k).name

-- rest list <-> first others: in `rest` followed by `list`, the catches of these names are commuted to the front; they
-- and the others stay in their order
abbrev pub ArrangesAfter : List (List ℕ) → List Catch → List Catch → List Catch → List Catch → Type 0
ArrangesAfter names rest [] first others = (first ≡ []) × (others ≡ rest)
ArrangesAfter names rest (k ∷ list) first others =
    (IsOf names k × ((k' : Catch) × (rest' : List Catch) × (t : List Catch)
    × CatchCommutesBeforeAll rest k k' rest' × ArrangesAfter names rest' list t others × (first ≡ k' ∷ t)))
    ⊎ ((¬ (IsOf names k)) × ArrangesAfter names (rest ++ k ∷ []) list first others)

-- the list after `rest`, which has no catch of these names, cannot be arranged: `patch` is the absolute label of the
-- first of their catches that is blocked, and `on` that of the catch that blocks it
abbrev pub IsBlockedAfter : List (List ℕ) → List Catch → List Catch → Key → Key → Type 0
IsBlockedAfter names rest [] patch on = ⊥
IsBlockedAfter names rest (k ∷ list) patch on =
    (IsOf names k × IsBlockedByKey rest k on × (patch ≡ catch_key k))
    ⊎ ((IsOf names k × ((k' : Catch) × (rest' : List Catch)
    × CatchCommutesBeforeAll rest k k' rest' × IsBlockedAfter names rest' list patch on))
    ⊎ ((¬ (IsOf names k)) × IsBlockedAfter names (rest ++ k ∷ []) list patch on))

-- list <-> first rest: the catches of these names are commuted to the front
abbrev pub Arrange : List (List ℕ) → List Catch → List Catch → List Catch → Type 0
Arrange names list first rest = ArrangesAfter names [] list first rest

-- the list cannot be arranged: a catch of these names, with the absolute label `patch`, is blocked by the catch with
-- the absolute label `on`
abbrev pub ArrangeIsBlocked : List (List ℕ) → List Catch → Key → Key → Type 0
ArrangeIsBlocked names list patch on = IsBlockedAfter names [] list patch on

-- list <-> k' others: the first catch with this absolute label is commuted to before all others
abbrev pub CatchMovesToFront : Key → List Catch → Catch → List Catch → Type 0
CatchMovesToFront key [] k' others = ⊥
CatchMovesToFront key (j ∷ list) k' others =
    ((catch_key j ≡ key) × (k' ≡ j) × (others ≡ list))
    ⊎ ((catch_key j ≢ key) × ((coming : Catch) × (j' : Catch) × (t : List Catch)
    × CatchMovesToFront key list coming t × CommuteCatch j coming k' j' × (others ≡ j' ∷ t)))

-- the list in the order of these absolute labels; catches whose label is not among them come last, in their own order
abbrev pub Align : List Key → List Catch → List Catch → Type 0
Align [] list aligned = aligned ≡ list
Align (key ∷ order) list aligned =
    (k : Catch) × (others : List Catch) × (t : List Catch)
    × CatchMovesToFront key list k others × Align order others t × (aligned ≡ k ∷ t)

-- the first of these labels whose catch is blocked, or that no catch has
abbrev pub AlignIsBlocked : List Key → List Catch → Key → Type 0
AlignIsBlocked [] list stuck = ⊥
AlignIsBlocked (key ∷ order) list stuck =
    (((k : Catch) (others : List Catch) → ¬ (CatchMovesToFront key list k others)) × (stuck ≡ key))
    ⊎ ((k : Catch) × (others : List Catch) × CatchMovesToFront key list k others × AlignIsBlocked order others stuck)
