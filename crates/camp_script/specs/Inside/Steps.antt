-- The steps of a reader from line to line. Proofs show that together they give the script that the definitions give.
use Rattle.std.specs.Prelude.{◌≡◌, ℕ, ◌+◌, false, true, if◌then◌else◌}
use Rattle.std.specs.Prelude.{List, [], ◌∷◌, length, Option, None, Some, Result, Ok, bytes_eq, codes}
use Rattle.camp_prim.specs.declared.primitives.Primitive.TheVariants.{Hunk}
use Rattle.camp_call.specs.declared.calls.Call.{Call}
use Rattle.camp_script.specs.Changes.{GroupLine, NoChange, WholeChange, EditChange, EndGroup, group_line_of, grown, ended_edit}
use Rattle.camp_script.specs.Commands.{Command, Nothing, Ask, BeginEdit, BeginGroup, BeginSection, command_of}
use Rattle.camp_script.specs.Lines.{words_of, is_skipped}
use Rattle.camp_base.specs.Results.{◌>>=◌}
use Rattle.camp_script.specs.Inside.Progress.{Progress, OpenRecord, OpenEdit, with_record, with_edit, with_open_edit}
use Rattle.camp_script.specs.Inside.Progress.{with_one_more, record_at, after_call, after_head, after_client}
use Rattle.camp_script.specs.Inside.Progress.{after_record, after_change, finished}
use Rattle.camp_script.specs.declared.grouping.Expected.{Expected}
use Rattle.camp_script.specs.declared.grouping.Expected.TheVariants as want
use Rattle.camp_script.specs.declared.faults.LineFault.{LineFault}

-- the progress after a line outside groups and bodies, given its meaning
abbrev pub after_command : ℕ → Progress → Command → Result Progress LineFault
after_command line progress Nothing = Ok progress
after_command line progress (Ask new) = after_call line progress new
after_command line progress (BeginEdit branch name path place) =
    after_head line progress (with_edit (record_at line branch name false) path place line)
after_command line progress (BeginGroup branch name) = after_head line progress (record_at line branch name true)
after_command line progress BeginSection = after_client line progress

-- `after_command`, given the meaning of the line or its fault
abbrev pub after_parsed_command : ℕ → Progress → Result Command LineFault → Result Progress LineFault
after_parsed_command line progress asked = asked >>= after_command line progress

-- the progress after a line of a group, outside bodies, given its meaning
abbrev pub after_group_line : ℕ → Progress → OpenRecord → GroupLine → Result Progress LineFault
after_group_line line progress begun NoChange = Ok (with_record progress begun)
after_group_line line progress begun (WholeChange change) = Ok (with_record progress (with_one_more begun change))
after_group_line line progress begun (EditChange path place) = Ok (with_record progress (with_edit begun path place line))
after_group_line line progress begun EndGroup = after_record line progress begun

-- `after_group_line`, given the meaning of the line or its fault
abbrev pub after_parsed_group_line : ℕ → Progress → OpenRecord → Result GroupLine LineFault → Result Progress LineFault
after_parsed_group_line line progress begun said = said >>= after_group_line line progress begun

-- the progress after the line `end`
abbrev pub after_end : ℕ → Progress → OpenRecord → OpenEdit → Result Progress LineFault
after_end line progress begun body =
    ended_edit line body.edit >>= λ edit. after_change line progress begun (Hunk edit)

-- the progress after a line of a body
abbrev pub after_body : ℕ → Progress → OpenRecord → OpenEdit → List ℕ → Result Progress LineFault
after_body line progress begun body bytes =
    if bytes_eq bytes (codes "end") then after_end line progress begun body
    else (grown line body.edit bytes >>= λ edit.
    Ok (with_record progress (with_open_edit begun (record { opened = body.opened; edit = edit }))))

-- the progress after a line of a record whose changes follow: a line of a body, or of the group
abbrev pub after_record_line : ℕ → Progress → OpenRecord → Option OpenEdit → List ℕ → Result Progress LineFault
after_record_line line progress begun None bytes =
    after_parsed_group_line line progress begun (group_line_of line (length begun.changes) (words_of bytes))
after_record_line line progress begun (Some body) bytes = after_body line progress begun body bytes

-- the progress after a line
abbrev pub after_line : ℕ → Option OpenRecord → Progress → List ℕ → Result Progress LineFault
after_line line None progress bytes = after_parsed_command line progress (command_of line (words_of bytes))
after_line line (Some begun) progress bytes = after_record_line line progress begun begun.open_edit bytes

-- the result of reading these lines and then ending, from a given progress
abbrev pub read_from : ℕ → Progress → List (List ℕ) → Result (List (List Call)) LineFault
read_from line progress [] = finished progress progress.open_record
read_from line progress (bytes ∷ lines) =
    after_line line progress.open_record progress bytes >>= λ next. read_from (line + 1) next lines

-- a line counts: it is in a body, or is neither blank nor a comment
abbrev pub HasMeaningIn : Option OpenEdit → List ℕ → Type 0
HasMeaningIn None bytes = is_skipped (words_of bytes) ≡ false
HasMeaningIn (Some body) bytes = Unit {0}

-- a line counts, given the open record, if there is one
abbrev pub HasMeaning : Option OpenRecord → List ℕ → Type 0
HasMeaning None bytes = is_skipped (words_of bytes) ≡ false
HasMeaning (Some begun) bytes = HasMeaningIn begun.open_edit bytes

-- the kind of lines that follow a first line, given the record that it has opened
abbrev pub wanted_in : Option OpenRecord → Expected
wanted_in None = want.Nothing
wanted_in (Some begun) = if begun.grouped then want.Group else want.Body
