-- The patches of a branch, their direct dependencies, and the conflicts between them.
use Rattle.std.specs.Prelude.{◌≡◌, ℕ, Bool, not, ◌&&◌, List, [], ◌∷◌, map, filter, bytes_eq, Ok}
use Rattle.std.specs.List.{AllByRecursion, list_any}
use Rattle.camp_catch.specs.declared.catches.Catch.{Catch}
use Rattle.camp_branch.specs.Branches.{is_among, names_of}
use Rattle.camp_branch.specs.Conflicting.{AreConflicts}
use Rattle.camp_repo.specs.States.{Contents}
use Rattle.camp_questions.specs.Answers.{AnswerOf, OfBranch}
use Rattle.camp_questions.specs.Dependencies.{Needs}
use Rattle.camp_questions.specs.declared.graphs.Node.{Node}

-- a patch, and the names of its dependencies and of itself
pub record Needing : Type 0 where
  pub name : List ℕ
  pub needs : List (List ℕ)

-- these are the dependencies of a patch in a branch
abbrev pub NeedsThese : List Catch → Needing → Type 0
NeedsThese branch patch =
    (needed : List (List ℕ)) × Needs branch (patch.name ∷ []) needed
    × ((name : List ℕ) → is_among patch.needs name ≡ is_among needed name)

-- a patch depends on another
abbrev pub needs_other : Needing → List ℕ → Bool
needs_other patch name = not (bytes_eq name patch.name) && is_among patch.needs name

-- a patch depends on `other`, and `other` depends on the patch of this name
abbrev pub goes_between : Needing → List ℕ → Needing → Bool
goes_between patch name other = needs_other patch other.name && needs_other other name

-- a patch depends directly on another one: no other dependency of the patch depends on that one
abbrev pub needs_directly : List Needing → Needing → List ℕ → Bool
needs_directly all patch name = needs_other patch name && not (list_any (goes_between patch name) all)

-- a patch of a branch with its direct dependencies, in the order of the branch
abbrev pub node_of : List Catch → List Needing → Needing → Node
node_of branch all patch =
    record { name = patch.name; needs = filter (needs_directly all patch) (names_of branch) }

-- patches with their direct dependencies, and the pairs of these patches that are in conflict
pub record Drawn : Type 0 where
  pub patches : List Node
  pub conflicts : List (List ℕ × List ℕ)

-- the patches of a branch in its order, with their direct dependencies, and the pairs that are in conflict
pub record IsGraph (branch : List Catch) (graph : Drawn) : Type 0 where
  pub all : List Needing
  pub names : map (λ (patch : Needing). patch.name) all ≡ names_of branch
  pub needs : AllByRecursion (NeedsThese branch) all
  pub patches : graph.patches ≡ map (node_of branch all) all
  pub conflicts : AreConflicts branch graph.conflicts

-- the question for the graph of a branch
abbrev pub IsGraphOf : Contents → List ℕ → AnswerOf Drawn → Type 0
IsGraphOf state branch =
    OfBranch state branch (λ catches answer. (graph : Drawn) × (answer ≡ Ok graph) × IsGraph catches graph)
