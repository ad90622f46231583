-- The text of given answers, section by section.
use Rattle.std.specs.Prelude.{ℕ, ◌+◌, List, [], ◌∷◌, ◌++◌, Option, None, Some, Result, codes}
use Rattle.std.specs.List.{flat_map, All}
use Rattle.std.specs.Fmt.{decimal}
use Rattle.camp_object.specs.declared.faults.Fault.{Fault}
use Rattle.camp_call.specs.declared.calls.Call.{Call}
use Rattle.camp_call.specs.declared.replies.Reply.{Reply}
use Rattle.camp_script.specs.Texts.{line_text, answer_text, HasText}
use Rattle.camp_script.specs.HistoryTexts.{history_text}

-- each answer of each section has a text
abbrev pub HaveTexts : List (List (Result Reply Fault)) → Type 0
HaveTexts sections = All (All HasText) sections

-- the answers of a section, in order
abbrev pub answers_text : List (Result Reply Fault) → List ℕ
answers_text answers = flat_map answer_text answers

-- the answers of a client, after a line with its number
abbrev pub client_answers : ℕ → List (Result Reply Fault) → List ℕ
client_answers number answers = line_text (codes "client" ∷ decimal number ∷ []) ++ answers_text answers

-- the answers of the clients from a number on
abbrev pub clients_answers : ℕ → List (List (Result Reply Fault)) → List ℕ
clients_answers number [] = []
clients_answers number (answers ∷ clients) = client_answers number answers ++ clients_answers (number + 1) clients

-- the answers of the opening, followed by those of the clients
abbrev pub sections_text : List (List (Result Reply Fault)) → List ℕ
sections_text [] = []
sections_text (opening ∷ clients) = answers_text opening ++ clients_answers 1 clients

-- a history, if it is wanted
abbrev pub wanted_text : Option (List (ℕ × Call)) → List ℕ
wanted_text None = []
wanted_text (Some history) = history_text history

-- the output of a run: the answers, followed by the history if it is wanted
abbrev pub output_text : List (List (Result Reply Fault)) → Option (List (ℕ × Call)) → List ℕ
output_text sections history = sections_text sections ++ wanted_text history
