-- When reading a script may run out of memory.
use Rattle.std.specs.Prelude.{ℕ, List, [], ◌∷◌, Result, Ok, if◌then◌else◌}
use Rattle.camp_script.specs.Commands.{Command, Nothing, command_of}
use Rattle.camp_script.specs.Gives.{HasNoFault}
use Rattle.camp_script.specs.Lines.{lines_of, is_skipped}
use Rattle.camp_script.specs.Pieces.{NumberedLine, numbered, words_on}
use Rattle.camp_script.specs.declared.faults.LineFault.{LineFault}

-- the meaning of the first line that is neither blank nor a comment, or its fault; nothing if there is no such line
abbrev pub first_command : List NumberedLine → Result Command LineFault
first_command [] = Ok Nothing
first_command (line ∷ lines) =
    if is_skipped (words_on line) then first_command lines else command_of line.number (words_on line)

-- reading a script may run out of memory, unless its first line that is neither blank nor a comment has a fault
abbrev pub ScriptMayWant : List ℕ → Type 0
ScriptMayWant bytes = HasNoFault (first_command (numbered 1 (lines_of bytes)))
