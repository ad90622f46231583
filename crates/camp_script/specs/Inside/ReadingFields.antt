-- The representation of the progress of a reader in its fields.
use Rattle.std.specs.Prelude.{◌≡◌, ◌≤◌, ◌<◌, length, map, count_by, Option, None, Some, List}
use Rattle.std.specs.List.{AllByRecursion}
use Rattle.std.specs.Option.{option_map}
use Rattle.camp_base.specs.Limits.{most_changes}
use Rattle.camp_prim.specs.Hunks.{Edit}
use Rattle.camp_prim.specs.declared.primitives.Primitive.{Primitive}
use Rattle.camp_call.specs.Calls.{is_writing}
use Rattle.camp_call.specs.declared.calls.Call.{Call}
use Rattle.camp_script.specs.Gives.{IsFaultFirst}
use Rattle.camp_script.specs.Sections.{most_clients, most_writing_calls}
use Rattle.camp_script.specs.declared.faults.ScriptFault.{ScriptFault}
use Rattle.camp_script.specs.Inside.Progress as progress
use Rattle.camp_script.specs.Inside.Progress.{Progress}
use Rattle.camp_script.specs.declared.records.OpenEdit.{OpenEdit}
use Rattle.camp_script.specs.declared.records.OpenRecord.{OpenRecord}
use Rattle.camp_script.specs.declared.readings.Reading.TheInside.{Inside}

-- the edit that the fields represent, with the lines read so far
abbrev pub edit_so_far : OpenEdit → Edit
edit_so_far edit = record { path = edit.path; line = edit.line; old = edit.old; new = edit.new }

-- the open edit that the fields represent
abbrev pub open_edit_of : OpenEdit → progress.OpenEdit
open_edit_of edit = record { opened = edit.opened; edit = edit_so_far edit }

-- the open record that the fields represent
abbrev pub open_record_of : OpenRecord → progress.OpenRecord
open_record_of begun = record {
  branch = begun.branch;
  name = begun.name;
  opened = begun.opened;
  grouped = begun.grouped;
  changes = begun.changes.items;
  open_edit = option_map open_edit_of begun.open_edit;
}

-- the fault of a script that ends within a record
abbrev pub IsNotEnded : ScriptFault → progress.OpenRecord → Type 0
IsNotEnded fault begun = IsFaultFirst {A = List (List Call)} fault (progress.not_ended begun begun.open_edit)

-- the progress that the fields represent
abbrev pub progress_of : Inside → Progress
progress_of reading = record {
  closed = map (λ section. section.items) reading.closed.items;
  calls = reading.calls.items;
  open_record = option_map open_record_of reading.open_record;
}

-- the section can have one more writing call
abbrev pub MayGrow : List Call → Type 0
MayGrow calls = count_by is_writing calls < most_writing_calls

-- an open edit has a line of at least 1, and its record may have one more change
abbrev pub HasRoomFor : List Primitive → Option OpenEdit → Type 0
HasRoomFor changes None = Unit {0}
HasRoomFor changes (Some edit) = (1 ≤ edit.line) × (length changes < most_changes)

-- an open record may have its changes, and its section may have its call
abbrev pub IsOpen : List Call → OpenRecord → Type 0
IsOpen calls begun = MayGrow calls × (length begun.changes.items ≤ most_changes) × HasRoomFor begun.changes.items begun.open_edit

-- `IsOpen` holds of the open record, if there is one
abbrev pub OpenRecordFits : List Call → Option OpenRecord → Type 0
OpenRecordFits calls None = Unit {0}
OpenRecordFits calls (Some begun) = IsOpen calls begun

-- each finished section is within the limit of writing calls, and one more section may follow
pub record AreClosed (sections : List (List Call)) : Type 0 where
  pub few : length sections ≤ most_clients
  pub writes : AllByRecursion (λ section. count_by is_writing section ≤ most_writing_calls) sections

-- the invariant of a reader: finished sections are within the limits, `writes` counts the writing calls of this
-- section, and an open record may be completed
pub record SectionsAreCounted (reading : Inside) : Type 0 where
  pub closed : AreClosed (map (λ section. section.items) reading.closed.items)
  pub writes : reading.writes ≡ count_by is_writing reading.calls.items
  pub few : count_by is_writing reading.calls.items ≤ most_writing_calls
  pub awaited : OpenRecordFits reading.calls.items reading.open_record
