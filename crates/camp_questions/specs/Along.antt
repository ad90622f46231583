-- Which patches a pull from one branch into another has to list.
use Rattle.std.specs.Prelude.{◌≡◌, ◌≢◌, ◌⊎◌, ℕ, List, None, Some, Result, Ok, Err}
use Rattle.camp_prim.specs.declared.labels.Key.{Key}
use Rattle.camp_catch.specs.Arranging.{Arrange, ArrangeIsBlocked}
use Rattle.camp_catch.specs.declared.catches.Catch.{Catch}
use Rattle.camp_branch.specs.Branches.{first_lacked}
use Rattle.camp_branch.specs.Pulling.{common_names}
use Rattle.camp_call.specs.declared.replies.Refusal.TheVariants.{Diverged, SameBranch}
use Rattle.camp_repo.specs.States.{Contents, catches_of}
use Rattle.camp_repo.specs.Steps.{wanted}
use Rattle.camp_questions.specs.Answers.{AnswerOf, OfBranch, OfPatches}
use Rattle.camp_questions.specs.Dependencies.{AreGrown, CanMoveToFront, AreBlockedBy}
use Rattle.camp_questions.specs.declared.faults.Unanswered.{Unanswered}
use Rattle.camp_questions.specs.declared.faults.Unanswered.TheVariants.{Refused, Memory}

-- the patches that a pull of these names has to list: those of the names that `to` lacks and, one after the other, each
-- patch that blocks them on their way to the front of what `from` has after the common patches; from <-> common behind
abbrev pub AreNamesToPull : List Catch → List Catch → List (List ℕ) → List (List ℕ) → Type 0
AreNamesToPull from to names told =
    (common : List Catch) × (behind : List Catch) × Arrange (common_names from to) from common behind
    × AreGrown from (CanMoveToFront behind) (AreBlockedBy behind) (wanted to names) told

-- the common patches can't be moved to the front of `from`: the one of this name is blocked
abbrev pub HaveDiverged : List Catch → List Catch → List ℕ → Type 0
HaveDiverged from to name =
    (stuck : Key) × (on : Key) × ArrangeIsBlocked (common_names from to) from stuck on × (name ≡ stuck.name)

-- the answer: the names to pull, or the refusal if the branches have diverged
abbrev pub AlongOr : List Catch → List Catch → List (List ℕ) → AnswerOf (List (List ℕ)) → Type 0
AlongOr from to names answer =
    ((told : List (List ℕ)) × (answer ≡ Ok told) × AreNamesToPull from to names told)
    ⊎ ((name : List ℕ) × (answer ≡ Err (Diverged name)) × HaveDiverged from to name)

-- a question about two branches, which is refused if they are one branch
abbrev pub OfTwo : {A : Type 0} → List ℕ → List ℕ → (AnswerOf A → Type 0) → AnswerOf A → Type 0
OfTwo from to GoesOn answer = ((from ≡ to) × (answer ≡ Err (SameBranch to))) ⊎ ((from ≢ to) × GoesOn answer)

-- the question which patches a pull of these names has to list
abbrev pub AreAlong : Contents → List ℕ → List ℕ → List (List ℕ) → AnswerOf (List (List ℕ)) → Type 0
AreAlong state from to names =
    OfBranch state from (λ theirs. OfBranch state to (λ ours.
    OfTwo from to (OfPatches theirs names (AlongOr theirs ours names))))

-- the question may run out of memory: both branches exist, they differ, and the first has the patches. Before these
-- tests it does not allocate; after them it may run out of memory even if the branches turn out to have diverged.
pub record AlongMayAllocate (state : Contents) (from to : List ℕ) (names : List (List ℕ)) : Type 0 where
  pub theirs : List Catch
  pub ours : List Catch
  pub is_from : catches_of state.branches from ≡ Some theirs
  pub is_to : catches_of state.branches to ≡ Some ours
  pub are_two : from ≢ to
  pub has : first_lacked theirs names ≡ None

-- the reported result of the question
abbrev pub ReportsAlong : Contents → List ℕ → List ℕ → List (List ℕ) → Result (List (List ℕ)) Unanswered → Type 0
ReportsAlong state from to names (Ok told) = AreAlong state from to names (Ok told)
ReportsAlong state from to names (Err (Refused refusal)) = AreAlong state from to names (Err refusal)
ReportsAlong state from to names (Err Memory) = AlongMayAllocate state from to names
