-- An answer is a failure exactly if its command has a fault, it was refused, or memory ran out.
use Rattle.camp_talk.proofs.Words.{◌≡◌, inl, inr, ℕ, Bool, true, false, List, Option, None, Some, Result, Ok, Err, refl, sym, ap, subst, ◌∙◌, true≢false, Call, LineFault, reply_text, SessionState, AnswersParsed, parsed_command, Entries, reports_failure, ParsedCommand}
use Rattle.std.specs.Prelude.{◌↔◌}
use Rattle.camp_base.specs.Trees.{Lines}
use Rattle.camp_call.specs.declared.replies.Refusal.{Refusal}
use Rattle.camp_call.specs.declared.replies.Refusal.TheVariants.{NoBranch}
use Rattle.camp_call.specs.declared.replies.Reply.{Reply}
use Rattle.camp_call.specs.declared.replies.Reply.TheVariants as reply
use Rattle.camp_questions.specs.Answers.{AnswerOf}
use Rattle.camp_questions.specs.declared.annotations.Annotated.{Annotated}
use Rattle.camp_questions.specs.declared.annotations.Annotated.TheVariants as annotated
use Rattle.camp_questions.specs.declared.marking.Marked.{Marked}
use Rattle.camp_questions.specs.declared.marking.Marked.TheVariants as marked
use Rattle.camp_repo.specs.States.{Contents}
use Rattle.camp_talk.specs.Inside.Responses.{IsFailureOf}
use Rattle.camp_talk.specs.Laws.{Failed, FailuresAreReported}
use Rattle.camp_talk.specs.QuestionAnswers.{AnswersQuestionAt, annotated_answer, file_answer, marks_answer, text_in}
use Rattle.camp_talk.specs.declared.questions.ParsedCommand.TheVariants as parsed
use Rattle.camp_talk.specs.declared.questions.Question.{Question}
use Rattle.camp_talk.specs.declared.questions.Question.TheVariants as question
use Rattle.camp_talk.specs.declared.responses.Failure.{Failure}

-- a text is a failure exactly if it is that of a refusal
abbrev Refuses : List ℕ → Type 0
Refuses text =
    (reports_failure text ≡ true) ↔ ((refusal : Refusal) × (text ≡ reply_text (reply.Refused refusal)))

refused_fails : (refusal : Refusal) → reports_failure (reply_text (reply.Refused refusal)) ≡ true
refused_fails (NoBranch branch) = refl
refused_fails other = refl

refused : (refusal : Refusal) → Refuses (reply_text (reply.Refused refusal))
refused refusal = (λ e. (refusal, refl), λ w. refused_fails refusal)

-- a text that is no failure is that of no refusal
plain : (text : List ℕ) → reports_failure text ≡ false → Refuses text
plain text none = (
  λ e. absurd (true≢false (sym e ∙ none)),
  λ w. absurd (true≢false (sym (refused_fails w.0) ∙ sym (ap reports_failure w.1) ∙ none)),
)

reply_fails : (answer : Reply) → Refuses (reply_text answer)
reply_fails (reply.Refused refusal) = refused refusal
reply_fails other = plain (reply_text other) refl

annotated_plain : (answer : Annotated) → reports_failure (annotated_answer answer) ≡ false
annotated_plain (annotated.File lines names) = refl
annotated_plain annotated.NoFile = refl

marks_plain : (answer : Marked) → reports_failure (marks_answer answer) ≡ false
marks_plain (marked.File file) = refl
marks_plain marked.NoFile = refl

file_plain : (lines : Option Lines) → reports_failure (file_answer lines) ≡ false
file_plain None = refl
file_plain (Some lines) = refl

-- the text of an answer is no failure
abbrev fails_in : AnswerOf (List ℕ) → Bool
fails_in (Ok text) = reports_failure text
fails_in (Err refusal) = true

module _ (history : List (ℕ × Call)) (state : Contents) where
  pub question_plain : (q : Question) (text : List ℕ) → AnswersQuestionAt history state q (Ok text) → reports_failure text ≡ false
  question_plain (question.Annotate branch path) text is = ap reports_failure is.2 ∙ annotated_plain is.0
  question_plain (question.Marks branch path) text is = ap reports_failure is.2 ∙ marks_plain is.0
  question_plain (question.File branch path) text is = ap reports_failure is.2 ∙ file_plain is.0
  question_plain question.Branches text is = ap fails_in is
  question_plain (question.WhatIf call) text is = ap fails_in is.2
  question_plain question.History text is = ap fails_in is
  question_plain question.Keep text is = ap fails_in is
  question_plain (question.Help topic) text is = ap fails_in is.2 ∙ ap reports_failure is.1.1
  question_plain other text is = ap reports_failure is.2

  question_fails : (q : Question) (answer : AnswerOf (List ℕ)) → AnswersQuestionAt history state q answer → Refuses (text_in answer)
  question_fails q (Ok text) is = plain text (question_plain q text is)
  question_fails q (Err refusal) is = refused refusal

-- the answer to a parsed command
parsed_fails : (before : SessionState) (a : Result ParsedCommand LineFault) (text : List ℕ) (now : Entries) → AnswersParsed before a text now → (reports_failure text ≡ true) ↔ Failed a text
parsed_fails before (Err fault) text now reports = (λ e. tt, λ w. ap reports_failure reports.0)
parsed_fails before (Ok parsed.Nothing) text now reports = (λ e. true≢false (sym e ∙ ap reports_failure reports.0), λ w. absurd w)
parsed_fails before (Ok (parsed.Call call)) text now reports = subst Refuses (sym reports.reports) (reply_fails reports.reply)
parsed_fails before (Ok (parsed.Question q)) text now ((answer, (state, leads, is), reports), same) =
    subst Refuses (sym reports) (question_fails before.history.calls state q answer is)
parsed_fails before (Ok parsed.Why) text now ((lines, reports, is), same) = (λ e. true≢false (sym e ∙ ap reports_failure reports), λ w. absurd w)

-- the answer to a command that was not done is a failure
pub failure_reported : (before : SessionState) (given : Result ParsedCommand LineFault) (why : Failure) (text : List ℕ) (now : Entries)
    → AnswersParsed before given text now → IsFailureOf given why text → reports_failure text ≡ true
failure_reported before (Err fault) why text now reports is = ap reports_failure reports.0
failure_reported before (Ok request) why text now reports (refusal, because, is) = ap reports_failure is ∙ refused_fails refusal

pub failures_are_reported : FailuresAreReported
failures_are_reported before command text after answers = elim answers.reports [
  | inl reports ↦
      let both = parsed_fails before (parsed_command command) text after.history reports in (
        λ e. inl (both.0 e),
        λ w. elim w [
          | inl failed ↦ both.1 failed
          | inr none ↦ ap reports_failure none
        ],
      )
  | inr want ↦ (λ e. inr want.1, λ w. ap reports_failure want.1)
]
