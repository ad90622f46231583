-- The catches of a branch after those of the patches that another branch has too.
use Rattle.std.specs.Prelude.{◌≡◌, ◌⊎◌, ℕ, List}
use Rattle.camp_catch.specs.Arranging.{Arrange}
use Rattle.camp_catch.specs.declared.catches.Catch.{Catch}
use Rattle.camp_branch.specs.Pulling.{common_names}
use Rattle.camp_call.specs.declared.replies.Refusal.TheVariants.{Diverged}
use Rattle.camp_questions.specs.Along.{HaveDiverged}
use Rattle.camp_questions.specs.declared.faults.Unanswered.{Unanswered}
use Rattle.camp_questions.specs.declared.faults.Unanswered.TheVariants.{Refused, Memory}

-- these are the catches of a branch that come after the common patches once those are moved to the front
abbrev pub AreAfterCommon : List Catch → List Catch → List Catch → Type 0
AreAfterCommon from to behind = (common : List Catch) × Arrange (common_names from to) from common behind

-- these catches cannot be found: the branches have diverged, or memory ran out
abbrev pub AreNotFound : List Catch → List Catch → Unanswered → Type 0
AreNotFound from to why =
    ((name : List ℕ) × HaveDiverged from to name × (why ≡ Refused (Diverged name))) ⊎ (why ≡ Memory)
