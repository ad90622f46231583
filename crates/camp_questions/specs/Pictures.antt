-- Graphs of branches with their unresolved conflicts marked.
use Rattle.std.specs.Prelude.{◌≡◌, ℕ, Bool, ◌&&◌, List, [], ◌∷◌, ◌++◌, map, filter, Ok, if◌then◌else◌}
use Rattle.std.specs.List.{list_any}
use Rattle.camp_branch.specs.Branches.{is_among}
use Rattle.camp_repo.specs.States.{Contents}
use Rattle.camp_questions.specs.Answers.{AnswerOf, OfBranch, OfPatches}
use Rattle.camp_questions.specs.Graphs.{Drawn, IsGraph}
use Rattle.camp_questions.specs.OpenConflicts.{AreUnresolvedIn}
use Rattle.camp_questions.specs.declared.graphs.Node.{Node}

-- patches with their direct dependencies, the pairs of these patches that are in conflict, and the pairs in an
-- unresolved conflict
pub record Picture : Type 0 where
  pub patches : List Node
  pub conflicts : List (List ℕ × List ℕ)
  pub unsettled : List (List ℕ × List ℕ)

-- names, with the direct dependencies of a patch added if the patch is among them
abbrev pub with_needs_of : Node → List (List ℕ) → List (List ℕ)
with_needs_of node names = if is_among names node.name then names ++ node.needs else names

-- names and all their dependencies, found from the last patch to the first: the direct dependencies of each patch that
-- is among them are added
abbrev pub with_needs : List Node → List (List ℕ) → List (List ℕ)
with_needs [] names = names
with_needs (node ∷ nodes) names = with_needs_of node (with_needs nodes names)

-- names, with a patch added if it depends directly on one of them
abbrev pub with_needing_one : List (List ℕ) → Node → List (List ℕ)
with_needing_one names node = if list_any (is_among names) node.needs then names ++ node.name ∷ [] else names

-- names and all their dependents, found from the first patch to the last: each patch that depends directly on one of
-- them is added
abbrev pub with_needing : List Node → List (List ℕ) → List (List ℕ)
with_needing [] names = names
with_needing (node ∷ nodes) names = with_needing nodes (with_needing_one names node)

-- a patch is one of these names, or a dependency or dependent of one
abbrev pub is_one_or_neighbour : List Node → List (List ℕ) → List ℕ → Bool
is_one_or_neighbour nodes names name = is_among (with_needs nodes names ++ with_needing nodes names) name

-- a patch, with only those of its arrows that lead to kept names
abbrev pub kept_node : (List ℕ → Bool) → Node → Node
kept_node keeps node = record { name = node.name; needs = filter keeps node.needs }

-- the part of a graph with only these patches, and the arrows and pairs between them; all unresolved pairs stay listed
abbrev pub part_with : (List ℕ → Bool) → Picture → Picture
part_with keeps whole =
    record {
      patches = map (kept_node keeps) (filter (λ (node : Node). keeps node.name) whole.patches);
      conflicts = filter (λ pair. keeps pair.0 && keeps pair.1) whole.conflicts;
      unsettled = whole.unsettled;
    }

-- the part of a graph with these patches, their dependencies and dependents; the whole graph if no patch is given
abbrev pub graph_part : List (List ℕ) → Picture → Picture
graph_part [] whole = whole
graph_part (name ∷ names) whole = part_with (is_one_or_neighbour whole.patches (name ∷ names)) whole

-- the graph with these unresolved conflicts
abbrev pub whole_picture : Drawn → List (List ℕ × List ℕ) → Picture
whole_picture graph pairs = record { patches = graph.patches; conflicts = graph.conflicts; unsettled = pairs }

-- the question for the graph of a branch, or of the part that belongs to some of its patches
abbrev pub IsPictured : Contents → List ℕ → List (List ℕ) → AnswerOf Picture → Type 0
IsPictured state branch names =
    OfBranch state branch (λ catches. OfPatches catches names (λ answer.
    (graph : Drawn) × (pairs : List (List ℕ × List ℕ)) × (answer ≡ Ok (graph_part names (whole_picture graph pairs)))
    × IsGraph catches graph × AreUnresolvedIn catches pairs))
