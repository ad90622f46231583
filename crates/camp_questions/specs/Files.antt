-- The contents of a repository and its branches.
use Rattle.std.specs.Prelude.{◌≡◌, ℕ, List, map, Option, Ok}
use Rattle.std.specs.FinMap.{get}
use Rattle.camp_base.specs.Trees.{Files, Lines}
use Rattle.camp_catch.specs.declared.catches.Catch.{Catch}
use Rattle.camp_branch.specs.Branches.{LeadsTo}
use Rattle.camp_repo.specs.States.{Contents}
use Rattle.camp_questions.specs.Answers.{AnswerOf, OfBranch}

-- the question for the names of the branches, in order of creation
abbrev pub branch_names : Contents → List (List ℕ)
branch_names state = map (λ branch. branch.0) state.branches

-- the lines of the file at a path in a branch, or no file
abbrev pub HasAt : List Catch → List ℕ → Option Lines → Type 0
HasAt branch path lines = (tree : Files) × LeadsTo branch tree × (lines ≡ get tree path)

-- the question for the file at a path
abbrev pub IsFile : Contents → List ℕ → List ℕ → AnswerOf (Option Lines) → Type 0
IsFile state branch path =
    OfBranch state branch (λ catches answer. (lines : Option Lines) × (answer ≡ Ok lines) × HasAt catches path lines)
