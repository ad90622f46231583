-- Questions and their results.
use Rattle.camp_questions.proofs.Words.{Catch, Contents, catches_of, ◌≡◌, ℕ, List, Option, None, first_lacked, Has, Result, Ok, Err, Some, refl, subst, AnswerOf, IfOk, ReportsAnswer, IsFound, IsReported, Unanswered, MatchOption, Refusal, NoBranch, NoPatch, OfBranch, OfPatches, ReportsAnswerOrMemory}

-- an answer is not a refusal
pub no_refusal : {A : Type 0} (refusal : Refusal) (answer : A) (is : AnswerOf A) → is ≡ Err refusal → is ≡ Ok answer → ⊥
no_refusal refusal answer is e f = cc

-- two equal Ok results have the same answer
pub same_answer : {A : Type 0} (is : AnswerOf A) (one other : A) → is ≡ Ok one → is ≡ Ok other → one ≡ other
same_answer is one other e f = cc

-- a result that has to be an answer is one
abbrev pub Such : {A : Type 0} → (A → Type 0) → AnswerOf A → Type 0
Such {A} Is answer = (told : A) × (answer ≡ Ok told) × Is told

-- a question about a branch that exists continues with its catches
goes_on : {A : Type 0} (state : Contents) (branch : List ℕ) {catches : List Catch} → catches_of state.branches branch ≡ Some catches → (GoesOn : List Catch → AnswerOf A → Type 0) (answer : AnswerOf A) → OfBranch state branch GoesOn answer → GoesOn catches answer
goes_on state branch found GoesOn answer w =
    subst (λ o. MatchOption o (answer ≡ Err (NoBranch branch)) (λ c. GoesOn c answer)) found w

-- the result, by whether the branch exists
pub by_branch : {A X : Type 0} (state : Contents) (branch : List ℕ) (GoesOn : List Catch → AnswerOf A → Type 0) (answer : AnswerOf A) → OfBranch state branch GoesOn answer
    → (catches_of state.branches branch ≡ None → answer ≡ Err (NoBranch branch) → X) → ((catches : List Catch) → Has state branch catches → GoesOn catches answer → X) → X
by_branch {A} {X} state branch GoesOn answer w none there = at (catches_of state.branches branch) refl w
  where
    at : (o : Option (List Catch)) → catches_of state.branches branch ≡ o → MatchOption o (answer ≡ Err (NoBranch branch)) (λ catches. GoesOn catches answer) → X
    at None is e = none is e
    at (Some catches) is v = there catches is v

-- and by whether the branch has the patches
pub by_patches : {A X : Type 0} (catches : List Catch) (names : List (List ℕ)) (GoesOn : AnswerOf A → Type 0) (answer : AnswerOf A) → OfPatches catches names GoesOn answer
    → ((name : List ℕ) → first_lacked catches names ≡ Some name → answer ≡ Err (NoPatch name) → X) → (first_lacked catches names ≡ None → GoesOn answer → X) → X
by_patches {A} {X} catches names GoesOn answer w lacks all = at (first_lacked catches names) refl w
  where
    at : (o : Option (List ℕ)) → first_lacked catches names ≡ o → MatchOption o (GoesOn answer) (λ name. answer ≡ Err (NoPatch name)) → X
    at None is v = all is v
    at (Some name) is e = lacks name is e

-- the result is the computed answer or out of memory: if there is an answer
module _ {A E : Type 0} (state : Contents) (branch : List ℕ) {catches : List Catch} (found : catches_of state.branches branch ≡ Some catches) where
  pub such_told : (Is : List Catch → A → Type 0) (made : Result A E) (result : Result A Unanswered) → IsReported made result → IfOk made (Is catches) → (one : A) → Is catches one → ReportsAnswer (OfBranch state branch (λ c. Such (Is c))) result
  such_told Is (Ok answer) result is w one there = rw is (rw found (answer, refl, w))
  such_told Is (Err error) result is w one there = rw is (one, rw found (one, refl, there))

  -- or if the question is not refused
  pub such_wanted : (Is : List Catch → A → Type 0) (made : Result A E) (result : Result A Unanswered) → IsReported made result → IfOk made (Is catches) → ReportsAnswerOrMemory (OfBranch state branch (λ c. Such (Is c))) result
  such_wanted Is (Ok answer) result is w = rw is (rw found (answer, refl, w))
  such_wanted Is (Err error) result is w =
      rw is (λ refusal v. let on = goes_on state branch found (λ c. Such (Is c)) (Err refusal) v in no_refusal refusal on.0 (Err refusal) refl on.1)

-- the same for a question about patches that the branch has
module _ {A : Type 0} (state : Contents) (branch : List ℕ) (names : List (List ℕ)) {catches : List Catch} (found : IsFound state branch names catches) (GoesOn : List Catch → AnswerOf A → Type 0) where
  abbrev Goes : List Catch → AnswerOf A → Type 0
  Goes c = OfPatches c names (GoesOn c)

  goes_on_with : (answer : AnswerOf A) → OfBranch state branch Goes answer → GoesOn catches answer
  goes_on_with answer w =
      subst (λ o. MatchOption o (GoesOn catches answer) (λ name. answer ≡ Err (NoPatch name))) found.has (goes_on state branch found.is Goes answer w)

  pub told_with : {E : Type 0} (made : Result A E) (result : Result A Unanswered) → IsReported made result → IfOk made (λ answer. GoesOn catches (Ok answer)) → (one : A) → GoesOn catches (Ok one) → ReportsAnswer (OfBranch state branch Goes) result
  told_with (Ok answer) result is w one there = rw is (rw found.is (rw found.has w))
  told_with (Err error) result is w one there = rw is (one, rw found.is (rw found.has there))

  pub wanted_with : {E : Type 0} (made : Result A E) (result : Result A Unanswered) → IsReported made result → IfOk made (λ answer. GoesOn catches (Ok answer)) → ((refusal : Refusal) → ¬ (GoesOn catches (Err refusal))) → ReportsAnswerOrMemory (OfBranch state branch Goes) result
  wanted_with (Ok answer) result is w never = rw is (rw found.is (rw found.has w))
  wanted_with (Err error) result is w never = rw is (λ refusal v. never refusal (goes_on_with (Err refusal) v))
