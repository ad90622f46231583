-- Patches that are moved in front of catches that are to be taken out.
use Rattle.std.specs.Prelude.{◌≡◌, ℕ, Bool, true, false, List, [], ◌∷◌}
use Rattle.std.specs.List.{AllByRecursion}
use Rattle.camp_prim.specs.declared.labels.Key.{Key}
use Rattle.camp_catch.specs.Arranging.{ArrangesAfter, CatchCommutesBeforeAll, IsBlockedAfter}
use Rattle.camp_catch.specs.declared.catches.Catch.{Catch}

-- the catches of a patch can be moved in front of those that are to be taken out, which then become `left`
abbrev pub MoveBeforeAll : List ℕ → List Catch → List Catch → List Catch → Type 0
MoveBeforeAll name going catches left = (first : List Catch) × ArrangesAfter (name ∷ []) going catches first left

-- a catch of a patch is blocked by those that are to be taken out
abbrev pub AreBlockedAfter : List ℕ → List Catch → List Catch → Type 0
AreBlockedAfter name going catches = (patch : Key) × (on : Key) × IsBlockedAfter (name ∷ []) going catches patch on

-- the result of moving a patch in front of the catches that are to be taken out: true and what these become, or false
-- and these unchanged
abbrev pub IsIndependent : List ℕ → List Catch → List Catch → Bool → List Catch → Type 0
IsIndependent name going catches true left = MoveBeforeAll name going catches left
IsIndependent name going catches false left = (left ≡ going) × AreBlockedAfter name going catches

-- each catch can be moved in front of a list, and all stay unchanged
abbrev pub AllCommuteUnchanged : List Catch → List Catch → Type 0
AllCommuteUnchanged going catches = AllByRecursion (λ k. CatchCommutesBeforeAll going k k going) catches
