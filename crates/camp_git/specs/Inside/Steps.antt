-- The catches of one patch, and the paths that a patch leaves unchanged.
use Rattle.std.specs.Prelude.{◌≡◌, ◌==◌, ℕ, zero, suc, false, List, [], ◌∷◌, if◌then◌else◌}
use Rattle.std.specs.Ordering.{nat_cmp}
use Rattle.std.specs.Cmp.Lexicographic.{slice_cmp}
use Rattle.std.specs.FinMap.{contains_key, get}
use Rattle.camp_share.specs.Maps.{map_of}
use Rattle.camp_base.specs.Trees.{Files}
use Rattle.camp_prim.specs.declared.labels.Key.{Key}

-- the number of labels before the first one with position 1, which begins the next patch
abbrev pub led_by : List Key → ℕ
led_by [] = zero
led_by (key ∷ keys) = if key.place == 1 then zero else suc (led_by keys)

-- two trees are the same at all paths outside a set
abbrev pub StaysBeside : List (List ℕ × Unit {0}) → Files → Files → Type 0
StaysBeside paths old new =
    (path : List ℕ) → contains_key (map_of (slice_cmp nat_cmp) paths) path ≡ false → get new path ≡ get old path

-- two trees are the same at all paths outside a set that includes another one
abbrev pub StaysBesideNew : List (List ℕ × Unit {0}) → List (List ℕ × Unit {0}) → Files → Files → Type 0
StaysBesideNew fewer paths old new =
    (path : List ℕ) → contains_key (map_of (slice_cmp nat_cmp) paths) path ≡ false
    → (contains_key (map_of (slice_cmp nat_cmp) fewer) path ≡ false) × (get new path ≡ get old path)
