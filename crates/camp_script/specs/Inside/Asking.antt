-- The meaning of a line for a reader, outside groups and within.
use Rattle.std.specs.Prelude.{◌≡◌, ◌≤◌, ◌<◌, ℕ, length, Result, Ok, Err}
use Rattle.camp_base.specs.Limits.{most_changes}
use Rattle.camp_prim.specs.Hunks.{Edit}
use Rattle.camp_prim.specs.declared.primitives.Primitive.{Primitive}
use Rattle.camp_prim.specs.declared.primitives.Primitive.TheVariants.{Hunk}
use Rattle.camp_script.specs.Changes.{GroupLine, WholeChange, EditChange, EndGroup, ended_edit}
use Rattle.camp_script.specs.Commands.{Command, Ask, BeginEdit, BeginGroup, BeginSection}
use Rattle.camp_script.specs.Gives.{IsFaultFirst}
use Rattle.camp_base.specs.Results.{◌>>=◌}
use Rattle.camp_script.specs.Inside.Progress.{Progress, OpenRecord}
use Rattle.camp_script.specs.Inside.Steps.{after_parsed_command, after_parsed_group_line}
use Rattle.camp_script.specs.declared.commands.ParsedLine.{ParsedLine}
use Rattle.camp_script.specs.declared.commands.ParsedLine.TheVariants as asked
use Rattle.camp_script.specs.declared.faults.LineFault.{LineFault}
use Rattle.camp_script.specs.declared.faults.ScriptFault.{ScriptFault}
use Rattle.camp_script.specs.declared.groups.ParsedGroupLine.{ParsedGroupLine}
use Rattle.camp_script.specs.declared.groups.ParsedGroupLine.TheVariants as told

-- the command of the definitions that a parsed one represents
abbrev pub command_parsed : ParsedLine → Command
command_parsed (asked.Call new) = Ask new
command_parsed (asked.Edit branch name path line) = BeginEdit branch name path line
command_parsed (asked.Group branch name) = BeginGroup branch name
command_parsed asked.Section = BeginSection

-- the line of an edit is at least 1
abbrev pub EditLineIsCounted : ParsedLine → Type 0
EditLineIsCounted (asked.Edit branch name path line) = 1 ≤ line
EditLineIsCounted other = Unit {0}

-- the result is the meaning of a line or its fault; out of memory is allowed only if there is no fault
abbrev pub ParsesLine : ℕ → Progress → Result ParsedLine ScriptFault → Result Command LineFault → Type 0
ParsesLine number progress (Ok asked) reading = (reading ≡ Ok (command_parsed asked)) × EditLineIsCounted asked
ParsesLine number progress (Err fault) reading = IsFaultFirst fault (after_parsed_command number progress reading)

-- the meaning of a line of a group that a parsed one represents
abbrev pub group_line_parsed : ParsedGroupLine → GroupLine
group_line_parsed (told.Change change) = WholeChange change
group_line_parsed (told.Edit path line) = EditChange path line
group_line_parsed told.Done = EndGroup

-- a group that has `count` changes may have one more, if this line is a change; and the line of an edit is at least 1
abbrev pub HasRoomForChange : ℕ → ParsedGroupLine → Type 0
HasRoomForChange count (told.Change change) = count < most_changes
HasRoomForChange count (told.Edit path line) = (1 ≤ line) × (count < most_changes)
HasRoomForChange count told.Done = Unit {0}

-- the result is the meaning of a line of a group or its fault; out of memory is allowed only if there is no fault
abbrev pub ParsesGroupLine : ℕ → Progress → OpenRecord → Result ParsedGroupLine ScriptFault → Result GroupLine LineFault → Type 0
ParsesGroupLine number progress begun (Ok told) reading = (reading ≡ Ok (group_line_parsed told)) × HasRoomForChange (length begun.changes) told
ParsesGroupLine number progress begun (Err fault) reading = IsFaultFirst fault (after_parsed_group_line number progress begun reading)

-- the change of an edit that ends at this line
abbrev pub ended_change : ℕ → Edit → Result Primitive LineFault
ended_change line edit = ended_edit line edit >>= λ edit. Ok (Hunk edit)
