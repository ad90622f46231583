-- The part of a graph that belongs to one patch, found without the rest of the graph.
use Rattle.std.specs.Prelude.{◌≡◌, ℕ, true, List, [], ◌∷◌, ◌++◌, map}
use Rattle.std.specs.List.{AllByRecursion}
use Rattle.camp_catch.specs.declared.catches.Catch.{Catch}
use Rattle.camp_branch.specs.Branches.{is_among, names_of}
use Rattle.camp_questions.specs.Dependencies.{HeldBy, Needs, in_order}
use Rattle.camp_questions.specs.Graphs.{Drawn, IsGraph}
use Rattle.camp_questions.specs.Pictures.{graph_part, whole_picture}
use Rattle.camp_questions.specs.declared.needed.Needed.{Needed}

-- a patch, its dependencies and its dependents, in the order of the branch
pub record AreRelated (branch : List Catch) (name : List ℕ) (related : List (List ℕ)) : Type 0 where
  pub needed : List (List ℕ)
  pub held : List (List ℕ)
  pub needs : Needs branch (name ∷ []) needed
  pub holds : HeldBy branch (name ∷ []) held
  pub are : related ≡ in_order branch (needed ++ held)

-- a patch, with a mark for each of some patches that is one of its dependencies
pub record IsMarkedAmong (branch : List Catch) (among : List (List ℕ)) (patch : Needed) : Type 0 where
  pub needed : List (List ℕ)
  pub grown : List (List ℕ)
  pub needs : Needs branch (patch.name ∷ []) needed
  pub same : (name : List ℕ) → is_among (names_of branch) name ≡ true → is_among grown name ≡ is_among needed name
  pub marks : patch.needs.items ≡ map (is_among grown) among

-- the patches of these names, each with its dependencies among some patches
pub record AreMarkedAmong (branch : List Catch) (among names : List (List ℕ)) (all : List Needed) : Type 0 where
  pub names_are : map (λ (patch : Needed). patch.name) all ≡ names
  pub marked : AllByRecursion (IsMarkedAmong branch among) all

-- the part of the graph of a branch that belongs to the patch of a name
abbrev pub IsPartOfOne : List Catch → List ℕ → Drawn → Type 0
IsPartOfOne branch name part =
    (graph : Drawn) × IsGraph branch graph
    × ((pairs : List (List ℕ × List ℕ)) → whole_picture part pairs ≡ graph_part (name ∷ []) (whole_picture graph pairs))
