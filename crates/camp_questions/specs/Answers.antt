-- The results of questions.
use Rattle.std.specs.Prelude.{◌≡◌, ℕ, List, MatchOption, Result, Ok, Err}
use Rattle.camp_catch.specs.declared.catches.Catch.{Catch}
use Rattle.camp_branch.specs.Branches.{first_lacked}
use Rattle.camp_call.specs.declared.replies.Refusal.{Refusal}
use Rattle.camp_call.specs.declared.replies.Refusal.TheVariants.{NoBranch, NoPatch}
use Rattle.camp_repo.specs.States.{Contents, catches_of}
use Rattle.camp_questions.specs.declared.faults.Unanswered.{Unanswered}
use Rattle.camp_questions.specs.declared.faults.Unanswered.TheVariants.{Refused, Memory}

-- the result of a question by its definition: an answer, or a refusal of the same kind as those of calls
abbrev pub AnswerOf : Type 0 → Type 0
AnswerOf A = Result A Refusal

-- a question about the catches of a branch: refused if there is no branch of the name
abbrev pub OfBranch : {A : Type 0} → Contents → List ℕ → (List Catch → AnswerOf A → Type 0) → AnswerOf A → Type 0
OfBranch state branch GoesOn answer =
    MatchOption (catches_of state.branches branch) (answer ≡ Err (NoBranch branch)) (λ catches. GoesOn catches answer)

-- a question about patches of a branch: refused with the first of these names of which the branch has no patch
abbrev pub OfPatches : {A : Type 0} → List Catch → List (List ℕ) → (AnswerOf A → Type 0) → AnswerOf A → Type 0
OfPatches catches names GoesOn answer =
    MatchOption (first_lacked catches names) (GoesOn answer) (λ name. answer ≡ Err (NoPatch name))

-- the reported result is the defined one; out of memory may be reported instead of an answer, but not instead of a
-- refusal
abbrev pub ReportsAnswer : {A : Type 0} → (AnswerOf A → Type 0) → Result A Unanswered → Type 0
ReportsAnswer ComesTo (Ok answer) = ComesTo (Ok answer)
ReportsAnswer ComesTo (Err (Refused refusal)) = ComesTo (Err refusal)
ReportsAnswer {A} ComesTo (Err Memory) = (answer : A) × ComesTo (Ok answer)

-- `ReportsAnswer` for a question that allocates before its result is known: out of memory may be reported unless the
-- question is refused before it allocates
abbrev pub ReportsAnswerOrMemory : {A : Type 0} → (AnswerOf A → Type 0) → Result A Unanswered → Type 0
ReportsAnswerOrMemory ComesTo (Ok answer) = ComesTo (Ok answer)
ReportsAnswerOrMemory ComesTo (Err (Refused refusal)) = ComesTo (Err refusal)
ReportsAnswerOrMemory ComesTo (Err Memory) = (refusal : Refusal) → ¬ (ComesTo (Err refusal))
