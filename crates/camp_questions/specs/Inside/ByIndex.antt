-- Patches by their index in a branch.
use Rattle.std.specs.Prelude.{◌≡◌, ℕ, zero, suc, ◌+◌, ◌==◌, ◌<◌, ◌≤◌, Bool, true, false, not, ◌&&◌, ◌⊎◌, List, [], ◌∷◌, ◌++◌, filter, length, get_or}
use Rattle.std.specs.List.{AllByRecursion}
use Rattle.camp_questions.specs.Graphs.{Needing, needs_directly}
use Rattle.camp_questions.specs.declared.graphs.Node.{Node}
use Rattle.camp_questions.specs.declared.needed.Needed.{Needed}

-- the indexes below `n`, in ascending order
abbrev pub indexes_below : ℕ → List ℕ
indexes_below zero = []
indexes_below (suc n) = indexes_below n ++ n ∷ []

-- the name at an index; empty past the end
abbrev pub name_at_index : List (List ℕ) → ℕ → List ℕ
name_at_index names place = get_or names place []

-- the patch at the index `at`, given the marks of its dependencies, depends on the patch at the index `place`
abbrev pub needs_index : List Bool → ℕ → ℕ → Bool
needs_index marks at place = not (place == at) && get_or marks place false

-- no patch has a mark past its own index
abbrev pub EndAtOwnIndex : List Needed → Type 0
EndAtOwnIndex all = (k : ℕ) (d : Needed) → k < length all → length (get_or all k d).needs.items ≤ k + 1

-- a reason why no patch before the index `settled` depends on a patch at these indexes: `settled` is 0, or no patch has
-- a mark past its own index and `settled` is at most the least of these indexes
abbrev pub NoneBeforeDepends : Bool → List ℕ → ℕ → Type 0
NoneBeforeDepends in_place places settled =
    (settled ≡ 0) ⊎ ((in_place ≡ true) × AllByRecursion (λ place. settled ≤ place) places)

-- a patch with its direct dependencies, in a branch whose patches have these names
abbrev pub node_in : List (List ℕ) → List Needing → Needing → Node
node_in names all patch = record { name = patch.name; needs = filter (needs_directly all patch) names }
