-- Branches by their index in the order of creation.
use Rattle.std.specs.Prelude.{ℕ, zero, suc, List, [], ◌∷◌, Ok, Err}
use Rattle.camp_catch.specs.declared.catches.Catch.{Catch}
use Rattle.camp_branch.specs.Pulling.{Outcome}
use Rattle.camp_repo.specs.States.{Branches, Contents}
use Rattle.camp_repo.specs.Steps.{Decision, accepted, refused, refusal_of}

-- the branches with the catches of the one at an index replaced
abbrev pub placed : Branches → ℕ → List Catch → Branches
placed [] place catches = []
placed (branch ∷ branches) zero catches = (branch.0, catches) ∷ branches
placed (branch ∷ branches) (suc place) catches = branch ∷ placed branches place catches

-- the decision for an outcome of the branch at an index: a state with the new branch, or a refusal
abbrev pub settled : Contents → ℕ → Outcome → Decision
settled state place (Ok catches) = accepted state (placed state.branches place catches)
settled state place (Err why) = refused (refusal_of why)
