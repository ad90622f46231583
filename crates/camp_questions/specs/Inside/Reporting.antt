-- The result of a question whose answer was computed.
use Rattle.std.specs.Prelude.{◌≡◌, Result, Ok, Err}
use Rattle.camp_questions.specs.declared.faults.Unanswered.{Unanswered}
use Rattle.camp_questions.specs.declared.faults.Unanswered.TheVariants.{Memory}

-- the answer, or out of memory
abbrev pub IsReported : {A E : Type 0} → Result A E → Result A Unanswered → Type 0
IsReported (Ok answer) result = result ≡ Ok answer
IsReported (Err error) result = result ≡ Err Memory
