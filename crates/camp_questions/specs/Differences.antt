-- The patches that one branch has and another lacks.
use Rattle.std.specs.Prelude.{◌≡◌, ℕ, not, List, filter, Ok}
use Rattle.camp_catch.specs.declared.catches.Catch.{Catch}
use Rattle.camp_branch.specs.Branches.{has_patch, names_of}
use Rattle.camp_repo.specs.States.{Contents}
use Rattle.camp_questions.specs.Answers.{AnswerOf, OfBranch}

-- the names of the patches that `theirs` has and `ours` lacks, in the order of `theirs`
abbrev pub missing_in : List Catch → List Catch → List (List ℕ)
missing_in ours theirs = filter (λ name. not (has_patch ours name)) (names_of theirs)

-- the question which patches the branch `from` has and `to` lacks
abbrev pub IsMissing : Contents → List ℕ → List ℕ → AnswerOf (List (List ℕ)) → Type 0
IsMissing state from to =
    OfBranch state from (λ theirs. OfBranch state to (λ ours answer. answer ≡ Ok (missing_in ours theirs)))
