-- Texts of answers to questions.
use Rattle.camp_talk.proofs.Words.{◌≡◌, ℕ, List, Result, Ok, Err, Vec, ap, refl, subst, sym, RendersAnswer}
use Rattle.camp_call.specs.declared.replies.Refusal.{Refusal}
use Rattle.camp_questions.specs.Along.{AreAlong, ReportsAlong}
use Rattle.camp_questions.specs.Answers.{AnswerOf, ReportsAnswer, ReportsAnswerOrMemory}
use Rattle.camp_questions.specs.declared.faults.Unanswered.{Unanswered}
use Rattle.camp_questions.specs.declared.faults.Unanswered.TheVariants as fault
use Rattle.camp_repo.specs.States.{Contents}
use Rattle.camp_talk.specs.Inside.Responses.{GivesAnswer, RendersFound}

module _ {A Z : Type 0} (text_of : A → List ℕ) (IsAnswer : AnswerOf A → Type 0) where
  abbrev Given : Result (Vec ℕ Z) Unanswered → Type 0
  Given result = GivesAnswer (RendersAnswer text_of IsAnswer) result

  -- the text reports what was found, which is the result of the question
  found_rendered : (found : Result A Unanswered) (result : Result (Vec ℕ Z) Unanswered)
      → ((answer : A) → found ≡ Ok answer → IsAnswer (Ok answer))
      → ((refusal : Refusal) → found ≡ Err (fault.Refused refusal) → IsAnswer (Err refusal))
      → RendersFound text_of found result → Given result
  found_rendered (Ok answer) (Ok text) answers refuses is = (answer, answers answer refl, is)
  found_rendered (Ok answer) (Err why) answers refuses is = subst (λ (why : Unanswered). Given (Err why)) (sym is) tt
  found_rendered (Err why) (Ok text) answers refuses is = absurd is
  found_rendered (Err why) (Err (fault.Refused refusal)) answers refuses is = refuses refusal (ap Err (sym is))
  found_rendered (Err why) (Err fault.Memory) answers refuses is = tt

  pub answer_rendered : (found : Result A Unanswered) (result : Result (Vec ℕ Z) Unanswered) → ReportsAnswer IsAnswer found
      → RendersFound text_of found result → Given result
  answer_rendered found result reports =
      found_rendered found result (λ answer is. subst (ReportsAnswer IsAnswer) is reports) (λ refusal is. subst (ReportsAnswer IsAnswer) is reports)

  pub answer_rendered_or_memory : (found : Result A Unanswered) (result : Result (Vec ℕ Z) Unanswered) → ReportsAnswerOrMemory IsAnswer found
      → RendersFound text_of found result → Given result
  answer_rendered_or_memory found result reports =
      found_rendered found result (λ answer is. subst (ReportsAnswerOrMemory IsAnswer) is reports) (λ refusal is. subst (ReportsAnswerOrMemory IsAnswer) is reports)

pub along_rendered : {Z : Type 0} (text_of : List (List ℕ) → List ℕ) (state : Contents) (from to : List ℕ) (names : List (List ℕ))
    → (found : Result (List (List ℕ)) Unanswered) (result : Result (Vec ℕ Z) Unanswered) → ReportsAlong state from to names found
    → RendersFound text_of found result → GivesAnswer (RendersAnswer text_of (AreAlong state from to names)) result
along_rendered text_of state from to names found result reports =
    found_rendered text_of (AreAlong state from to names) found result (λ answer is. subst (ReportsAlong state from to names) is reports) (λ refusal is. subst (ReportsAlong state from to names) is reports)
