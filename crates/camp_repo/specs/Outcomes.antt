-- The results of pulls, obliterations and questions for conflicts as functions: each has exactly one.
use Rattle.std.specs.Prelude.{ℕ, List}
use Rattle.camp_catch.specs.declared.catches.Catch.{Catch}
use Rattle.camp_branch.specs.Pulling.{Outcome}
use Rattle.camp_branch.proofs.OutcomesDetermined.{outcomes_are_determined}
use Rattle.camp_branch.proofs.ConflictsDetermined.{conflicts_are_determined}

-- the one outcome of a pull of these names from one branch into another, by `PullGives`
abbrev pub pulled : List Catch → List Catch → List (List ℕ) → Outcome
pulled from to wanted = (outcomes_are_determined.pulls from to wanted).0

-- the one outcome of taking these names out of a branch, by `ObliterateGives`
abbrev pub obliterated : List Catch → List (List ℕ) → Outcome
obliterated branch names = (outcomes_are_determined.obliterates branch names).0

-- the conflicts of a branch, by `AreConflicts`
abbrev pub conflicts_of : List Catch → List (List ℕ × List ℕ)
conflicts_of branch = (conflicts_are_determined branch).0
