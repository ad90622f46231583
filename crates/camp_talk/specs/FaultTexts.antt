-- The answer to a command with a fault.
use Rattle.std.specs.Prelude.{ℕ, List, ◌++◌, codes}
use Rattle.std.specs.Fmt.{decimal}
use Rattle.camp_script.specs.Faults.{kind_words}
use Rattle.camp_script.specs.declared.faults.FaultKind.{FaultKind}

-- the line that has the fault, and the kind of the fault
abbrev pub fault_text : ℕ → FaultKind → List ℕ
fault_text line kind = (codes "fault " ++ decimal line ++ codes " " ++ kind_words kind) ++ codes "\n"
