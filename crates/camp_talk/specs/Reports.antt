-- The answer of `why`: the report on the last command that was not done.
use Rattle.std.specs.Prelude.{◌≡◌, ℕ, ◌+◌, List, ◌++◌, take, Option, None, Some, codes}
use Rattle.camp_call.specs.declared.replies.Reply.TheVariants as reply
use Rattle.camp_script.specs.Texts.{reply_text}
use Rattle.camp_talk.specs.Diagnostics.{Diagnostic, FailedCommand}
use Rattle.camp_talk.specs.FaultTexts.{fault_text}
use Rattle.camp_talk.specs.QuestionAnswers.{counted}
use Rattle.camp_talk.specs.Visible.{IsPlainText, visible}
use Rattle.camp_talk.specs.declared.diagnostics.FailureCause.{FailureCause}
use Rattle.camp_talk.specs.declared.diagnostics.FailureCause.TheVariants.{Fault, Refused}

-- the most bytes that are shown of a line
abbrev pub most_shown : ℕ
most_shown = 200

-- a line after `>`: as much as is shown of it, in printable characters
abbrev pub quoted_line : List ℕ → List ℕ
quoted_line line = codes ">" ++ visible (take most_shown line) ++ codes "\n"

-- the answer to a command that was not done
abbrev pub answer_in : FailureCause → List ℕ
answer_in (Fault before fault hint) = fault_text (before + fault.line) fault.kind
answer_in (Refused refusal request state cause) = reply_text (reply.Refused refusal)

-- lines report a command that was not done: they begin with its answer and its line; in the others each byte is
-- printable, or a line feed
abbrev pub IsReport : Option FailedCommand → List ℕ → Type 0
IsReport None lines = IsPlainText lines
IsReport (Some failed) lines = (more : List ℕ) × IsPlainText more × (lines ≡ answer_in failed.cause ++ quoted_line failed.line ++ more)

-- the report on a diagnostic, after `why` and the number of its lines
abbrev pub RendersWhy : Diagnostic → List ℕ → Type 0
RendersWhy diagnostic text = (lines : List ℕ) × (text ≡ counted (codes "why") lines) × IsReport diagnostic.failed lines
