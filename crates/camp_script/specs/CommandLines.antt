-- Commands: a first line, and the lines that belong to it.
use Rattle.std.specs.Prelude.{◌≡◌, ℕ, ◌+◌, Bool, true, false, if◌then◌else◌}
use Rattle.std.specs.Prelude.{List, [], ◌∷◌, ◌++◌, map, Option, None, Some, Result, Ok, bytes_eq, codes}
use Rattle.std.specs.List.{flat_map}
use Rattle.camp_call.specs.declared.calls.Call.{Call}
use Rattle.camp_script.specs.Commands.{Command, BeginEdit, BeginGroup, command_of}
use Rattle.camp_script.specs.Gives.{IsFaultOf}
use Rattle.camp_script.specs.Inside.Progress.{Progress}
use Rattle.camp_script.specs.Inside.Steps.{read_from}
use Rattle.camp_script.specs.Lines.{words_of}
use Rattle.camp_script.specs.Pieces.{NumberedLine, Entry, begins_edit, begins_with, ends_body, ends_group, line_entries, numbered, up_to}
use Rattle.camp_script.specs.Reading.{script_of_lines}
use Rattle.camp_script.specs.declared.command_lines.CommandLines.{CommandLines}
use Rattle.camp_script.specs.declared.grouping.Expected.{Expected}
use Rattle.camp_script.specs.declared.grouping.Expected.TheVariants.{Nothing, Body, Group, GroupBody}
use Rattle.camp_script.specs.declared.faults.LineFault.{LineFault}
use Rattle.camp_script.specs.declared.faults.ScriptFault.{ScriptFault}

-- the lines of an entry
abbrev pub entry_lines : Entry → List NumberedLine
entry_lines entry = entry.head ∷ entry.rest

-- the lines of a group: those of its entries, up to `done`
abbrev pub group_lines : List NumberedLine → List NumberedLine
group_lines lines = flat_map entry_lines (up_to ends_group (line_entries lines))

-- the kind of lines that follow a first line: the body of an edit, the lines of a group, or none. A first line with a
-- fault has none.
abbrev pub taken_by : Result Command LineFault → List NumberedLine → List NumberedLine
taken_by (Ok (BeginEdit branch name path place)) lines = up_to ends_body lines
taken_by (Ok (BeginGroup branch name)) lines = group_lines lines
taken_by other lines = []

-- the lines that come after a first line and belong to its command
abbrev pub taken : List ℕ → List (List ℕ) → List (List ℕ)
taken first lines = map (λ line. line.bytes) (taken_by (command_of 1 (words_of first)) (numbered 2 lines))

-- whether the next line belongs to the command
abbrev pub wants : Expected → Bool
wants Nothing = false
wants Body = true
wants Group = true
wants GroupBody = true

-- the kind of lines that follow after one more line: a body ends with `end`, and a group with `done`
abbrev pub wanted_after : Expected → List ℕ → Expected
wanted_after Nothing line = Nothing
wanted_after Body line = if bytes_eq line (codes "end") then Nothing else Body
wanted_after GroupBody line = if bytes_eq line (codes "end") then Group else GroupBody
wanted_after Group line =
    if begins_edit (words_of line) then GroupBody
    else (if begins_with (codes "done") (words_of line) then Nothing else Group)

-- the first ones of these lines that belong to the command
abbrev pub wanted_lines : Expected → List (List ℕ) → List (List ℕ)
wanted_lines wanted [] = []
wanted_lines wanted (line ∷ lines) = if wants wanted then line ∷ wanted_lines (wanted_after wanted line) lines else []

-- the result of a command: the script that the reader gives or, if a line has a fault, that fault. After out of memory
-- the script can be any.
abbrev pub GivesScript : Option ScriptFault → ℕ → Progress → List (List ℕ) → Result (List (List Call)) LineFault → Type 0
GivesScript None number reading others script = script ≡ read_from (number + 1) reading others
GivesScript (Some fault) number reading others script = IsFaultOf fault script

-- the invariant of a command that has read its first line and the lines `rest`. Whatever lines `others` come next: its
-- lines are `rest` and the first ones of `others` that it wants; and reading on through these gives the script of all
-- its lines
pub record HasRead (command : CommandLines) (first : List ℕ) (rest : List (List ℕ)) : Type 0 where
  pub takes : (others : List (List ℕ)) → taken first (rest ++ others) ≡ rest ++ wanted_lines command.wanted others
  pub reads : (others : List (List ℕ)) → GivesScript command.fault command.number command.reading others (script_of_lines (first ∷ rest ++ others))
