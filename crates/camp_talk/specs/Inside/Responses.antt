-- The bytes that are written for a command, and the answers to questions.
use Rattle.std.specs.Prelude.{◌≡◌, ℕ, List, Result, Ok, Err, Vec}
use Rattle.camp_call.specs.declared.replies.Refusal.{Refusal}
use Rattle.camp_call.specs.declared.replies.Reply.TheVariants as reply
use Rattle.camp_questions.specs.Answers.{AnswerOf}
use Rattle.camp_questions.specs.declared.faults.Unanswered.{Unanswered}
use Rattle.camp_questions.specs.declared.faults.Unanswered.TheVariants as fault
use Rattle.camp_script.specs.Texts.{reply_text}
use Rattle.camp_script.specs.declared.faults.LineFault.{LineFault}
use Rattle.camp_talk.specs.Answers.{memory_text}
use Rattle.camp_talk.specs.declared.questions.ParsedCommand.{ParsedCommand}
use Rattle.camp_talk.specs.declared.responses.Failure.{Failure}
use Rattle.camp_talk.specs.declared.responses.Failure.TheVariants as failure
use Rattle.camp_talk.specs.declared.responses.Response.{Response}
use Rattle.camp_talk.specs.declared.responses.Response.TheVariants.{Done, Failed, OutOfMemory}

-- the bytes that are written for a response
abbrev pub written : Response → List ℕ
written (Done answer) = answer.items
written (Failed why answer) = answer.items
written OutOfMemory = memory_text

-- why a command was not done, by its parsed form: its fault, or the refusal that this text reports
abbrev pub IsFailureOf : Result ParsedCommand LineFault → Failure → List ℕ → Type 0
IsFailureOf (Err fault) why text = why ≡ failure.Fault fault
IsFailureOf (Ok request) why text = (refusal : Refusal) × (why ≡ failure.Refused refusal) × (text ≡ reply_text (reply.Refused refusal))

-- memory ran out
abbrev pub IsOutOfMemory : Response → Type 0
IsOutOfMemory (Done answer) = ⊥
IsOutOfMemory (Failed why answer) = ⊥
IsOutOfMemory OutOfMemory = Unit {0}

-- the result of a question is rendered, unless it is refused or memory runs out
abbrev pub RendersFound : {A Z : Type 0} → (A → List ℕ) → Result A Unanswered → Result (Vec ℕ Z) Unanswered → Type 0
RendersFound text_of (Ok answer) (Ok text) = text.items ≡ text_of answer
RendersFound text_of (Ok answer) (Err why) = why ≡ fault.Memory
RendersFound text_of (Err why) (Ok text) = ⊥
RendersFound text_of (Err why) (Err other) = other ≡ why

-- the result is the answer, or its refusal, unless memory runs out
abbrev pub GivesAnswer : {Z : Type 0} → (AnswerOf (List ℕ) → Type 0) → Result (Vec ℕ Z) Unanswered → Type 0
GivesAnswer IsAnswer (Ok text) = IsAnswer (Ok text.items)
GivesAnswer IsAnswer (Err (fault.Refused refusal)) = IsAnswer (Err refusal)
GivesAnswer IsAnswer (Err fault.Memory) = Unit {0}
