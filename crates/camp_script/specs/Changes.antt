-- The changes of a record: the bodies of edits, and the lines of groups.
use Rattle.std.specs.Prelude.{ℕ, ◌+◌, ◌&&◌, ◌==◌, nat_le, nat_lt, if◌then◌else◌}
use Rattle.std.specs.Prelude.{List, [], ◌∷◌, ◌++◌, length, Result, Ok, bytes_eq, codes}
use Rattle.std.specs.List.{list_any}
use Rattle.camp_base.specs.Bytes.{is_line}
use Rattle.camp_base.specs.Limits.{greatest_reach, most_changes}
use Rattle.camp_prim.specs.Hunks.{Edit}
use Rattle.camp_prim.specs.declared.primitives.Primitive.{Primitive}
use Rattle.camp_prim.specs.declared.primitives.Primitive.TheVariants.{Add, Remove, Hunk}
use Rattle.camp_script.specs.Faults.{fault_at}
use Rattle.camp_script.specs.Lines.{is_skipped}
use Rattle.camp_script.specs.Pieces.{NumberedLine, Entry, ends_body, ends_group, entry_words}
use Rattle.camp_script.specs.Signs.{minus_sign, plus_sign}
use Rattle.camp_script.specs.Words.{fold_results, no_words, one_word, two_words, path_at, number_at}
use Rattle.camp_base.specs.Results.{◌>>=◌}
use Rattle.camp_script.specs.declared.faults.FaultKind.TheVariants.{BadGroup, BadEdit, BadNumber, BadLine}
use Rattle.camp_script.specs.declared.faults.FaultKind.TheVariants.{EditNotEnded, GroupNotEnded}
use Rattle.camp_script.specs.declared.faults.LineFault.{LineFault}

-- the edit with one more old line
abbrev pub with_old : Edit → List ℕ → Edit
with_old edit line = record edit { old = edit.old ++ line ∷ [] }

-- the edit with one more new line
abbrev pub with_new : Edit → List ℕ → Edit
with_new edit line = record edit { new = edit.new ++ line ∷ [] }

-- an edit with one more line of a side: the line has at most 4,096 bytes after its sign
abbrev pub side_at : ℕ → List ℕ → Edit → Result Edit LineFault
side_at line bytes edit = if is_line bytes then Ok edit else fault_at line BadLine

-- an edit with one more line of its body that is not `end`: an old line, with no new one before it, or a new line
abbrev pub grown : ℕ → Edit → List ℕ → Result Edit LineFault
grown line edit [] = fault_at line BadEdit
grown line edit (sign ∷ bytes) =
    if sign == minus_sign && length edit.new == 0 then side_at line bytes (with_old edit bytes)
    else (if sign == plus_sign then side_at line bytes (with_new edit bytes)
    else fault_at line BadEdit)

-- an edit whose `end` is on a line: a side has lines, and the edit's line and the counts of its old and new lines add
-- up to at most 2^30
abbrev pub ended_edit : ℕ → Edit → Result Edit LineFault
ended_edit line edit =
    if length edit.old + length edit.new == 0 then fault_at line BadEdit
    else (if nat_lt greatest_reach (edit.line + length edit.old + length edit.new) then fault_at line BadNumber
    else Ok edit)

-- an edit after one more line of its body
abbrev pub after_body_line : Edit → NumberedLine → Result Edit LineFault
after_body_line edit line =
    if ends_body line then ended_edit line.number edit else grown line.number edit line.bytes

-- the change of an edit, parsed from its body, which ends with `end`; `line` is where the edit begins in the script,
-- and a missing `end` is a fault there
abbrev pub parsed_edit : ℕ → List ℕ → ℕ → List NumberedLine → Result Primitive LineFault
parsed_edit line path place body =
    fold_results after_body_line (record { path = path; line = place; old = []; new = [] }) body >>= λ edit.
    if list_any ends_body body then Ok (Hunk edit) else fault_at line EditNotEnded

-- the meaning of a line of a group: no change; a change; an edit, whose body follows; or the end of the group
pub data GroupLine : Type 0 where
  NoChange : GroupLine
  WholeChange : Primitive → GroupLine
  EditChange : (path : List ℕ) → (place : ℕ) → GroupLine
  EndGroup : GroupLine

-- `add PATH` or `remove PATH` as the next change of a group, which has at most 64
abbrev pub whole_change : (List ℕ → Primitive) → ℕ → ℕ → List ℕ → Result GroupLine LineFault
whole_change change line count path =
    if nat_le most_changes count then fault_at line BadGroup else (path_at line path >>= λ path. Ok (WholeChange (change path)))

-- `edit PATH LINE` as the next change of a group; the body follows
abbrev pub edit_change : ℕ → ℕ → List ℕ → List ℕ → Result GroupLine LineFault
edit_change line count path place =
    if nat_le most_changes count then fault_at line BadGroup
    else (path_at line path >>= λ path. number_at line place >>= λ place. Ok (EditChange path place))

-- a line of a group by its first word and the others, given the number of changes before it; nothing follows `done`
abbrev pub change_of : ℕ → ℕ → List ℕ → List (List ℕ) → Result GroupLine LineFault
change_of line count word words =
    if bytes_eq word (codes "add") then (one_word line words >>= whole_change Add line count)
    else (if bytes_eq word (codes "remove") then (one_word line words >>= whole_change Remove line count)
    else (if bytes_eq word (codes "edit") then (two_words line words >>= λ pair. edit_change line count pair.0 pair.1)
    else (if bytes_eq word (codes "done") then (no_words line words >>= λ none. Ok EndGroup)
    else fault_at line BadGroup)))

-- the meaning of a line of a group, given its line number; blank lines and comments mean nothing
abbrev pub group_line_of : ℕ → ℕ → List (List ℕ) → Result GroupLine LineFault
group_line_of line count [] = Ok NoChange
group_line_of line count (word ∷ words) =
    if is_skipped (word ∷ words) then Ok NoChange else change_of line count word words

-- the changes of a group after an entry with this meaning; `done` is a fault if the group has no change
abbrev pub with_change : List Primitive → Entry → GroupLine → Result (List Primitive) LineFault
with_change changes entry NoChange = Ok changes
with_change changes entry (WholeChange change) = Ok (changes ++ change ∷ [])
with_change changes entry (EditChange path place) =
    parsed_edit entry.head.number path place entry.rest >>= λ change. Ok (changes ++ change ∷ [])
with_change changes entry EndGroup =
    if length changes == 0 then fault_at entry.head.number BadGroup else Ok changes

-- the changes of a group after an entry
abbrev pub after_entry : List Primitive → Entry → Result (List Primitive) LineFault
after_entry changes entry =
    group_line_of entry.head.number (length changes) (entry_words entry) >>= with_change changes entry

-- the changes of a group, parsed from its entries, which end with `done`; a missing `done` is a fault at the line where
-- the group begins
abbrev pub group_of : ℕ → List Entry → Result (List Primitive) LineFault
group_of line entries =
    fold_results after_entry [] entries >>= λ changes.
    if list_any ends_group entries then Ok changes else fault_at line GroupNotEnded
