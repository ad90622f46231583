-- Sets of names to which names are added until all can be moved to the front of a branch, or taken out of it.
use Rattle.std.specs.Prelude.{◌≡◌, ℕ, List, ◌++◌}
use Rattle.camp_catch.specs.declared.catches.Catch.{Catch}
use Rattle.camp_branch.specs.Branches.{is_among}
use Rattle.camp_questions.specs.Dependencies.{AreAdded, DependsOnTakenOut, CanBeTakenOut, CanMoveToFront, AreBlockedBy}

-- a set has the names and those that are added one by one until `Done` holds
abbrev pub Grows :
    (List (List ℕ) → Type 0) → (List (List ℕ) → List ℕ → Type 0) → List (List ℕ) → List (List ℕ) → Type 0
Grows Done Stops names grown =
    (added : List (List ℕ)) × AreAdded Done Stops names added
    × ((name : List ℕ) → is_among grown name ≡ is_among (names ++ added) name)

-- a set has the names and those that are added until all can be moved to the front of a branch
abbrev pub GrowsToFront : List Catch → List (List ℕ) → List (List ℕ) → Type 0
GrowsToFront branch = Grows (CanMoveToFront branch) (AreBlockedBy branch)

-- a set has the names and those that are added until all can be taken out of a branch
abbrev pub GrowsToTakeOut : List Catch → List (List ℕ) → List (List ℕ) → Type 0
GrowsToTakeOut branch = Grows (CanBeTakenOut branch) (DependsOnTakenOut branch)
