-- What a run writes.
use Rattle.std.specs.Prelude.{◌≡◌, ℕ, Bool, true, false, List, Option, None, Some, Result}
use Rattle.camp_object.specs.declared.faults.Fault.{Fault}
use Rattle.camp_call.specs.declared.calls.Call.{Call}
use Rattle.camp_call.specs.declared.replies.Reply.{Reply}
use Rattle.camp_script.specs.Outputs.{output_text}

-- possible results of sections of calls: the answers to each, and the history
abbrev pub RunRelation : Type 1
RunRelation = List (List Call) → List (List (Result Reply Fault)) → List (ℕ × Call) → Type 0

-- a history if it is wanted, else none
abbrev pub if_wanted : Bool → List (ℕ × Call) → Option (List (ℕ × Call))
if_wanted true history = Some history
if_wanted false history = None

-- a text is that of the answers to a script and, if it is wanted, of the history
pub record IsOutput (Relates : RunRelation) (wants_history : Bool) (script : List (List Call)) (text : List ℕ) : Type 0 where
  pub answers : List (List (Result Reply Fault))
  pub history : List (ℕ × Call)
  pub relates : Relates script answers history
  pub is_text : text ≡ output_text answers (if_wanted wants_history history)
