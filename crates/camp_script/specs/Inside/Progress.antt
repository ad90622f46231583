-- The progress of a reader; only private definitions use it.
use Rattle.std.specs.Prelude.{ℕ, Bool, ◌&&◌, ◌==◌, nat_le, if◌then◌else◌}
use Rattle.std.specs.Prelude.{List, [], ◌∷◌, ◌++◌, length, Option, None, Some, Result, Ok}
use Rattle.camp_prim.specs.Hunks.{Edit}
use Rattle.camp_prim.specs.declared.primitives.Primitive.{Primitive}
use Rattle.camp_call.specs.Calls.{is_writing}
use Rattle.camp_call.specs.declared.calls.Call.{Call}
use Rattle.camp_call.specs.declared.calls.Call.TheVariants as call
use Rattle.camp_script.specs.Faults.{fault_at}
use Rattle.camp_script.specs.Reading.{is_full}
use Rattle.camp_script.specs.Sections.{most_clients}
use Rattle.camp_script.specs.declared.faults.FaultKind.TheVariants.{TooManyClients, TooManyCommands}
use Rattle.camp_script.specs.declared.faults.FaultKind.TheVariants.{BadGroup, EditNotEnded, GroupNotEnded}
use Rattle.camp_script.specs.declared.faults.LineFault.{LineFault}

-- an edit whose body has not ended: the line of the script that begins it, and its sides so far
pub record OpenEdit : Type 0 where
  pub opened : ℕ
  pub edit : Edit

-- a record that has not ended: its branch and name, the line of the script that begins it, whether its changes are in
-- a group, those so far, and the edit that has not ended
pub record OpenRecord : Type 0 where
  pub branch : List ℕ
  pub name : List ℕ
  pub opened : ℕ
  pub grouped : Bool
  pub changes : List Primitive
  pub open_edit : Option OpenEdit

-- the progress of a script: the sections before this one, the calls of this one, and the open record, if any
pub record Progress : Type 0 where
  pub closed : List (List Call)
  pub calls : List Call
  pub open_record : Option OpenRecord

-- the initial progress: the opening has begun, without a call
abbrev pub start : Progress
start = record { closed = []; calls = []; open_record = None }

-- the progress with one more call, and no record open
abbrev pub with_call : Progress → Call → Progress
with_call progress new = record progress { calls = progress.calls ++ new ∷ []; open_record = None }

-- the progress with this record open
abbrev pub with_record : Progress → OpenRecord → Progress
with_record progress begun = record progress { open_record = Some begun }

-- a record without changes, which begins at a line
abbrev pub record_at : ℕ → List ℕ → List ℕ → Bool → OpenRecord
record_at line branch name grouped =
    record { branch = branch; name = name; opened = line; grouped = grouped; changes = []; open_edit = None }

-- a record with this edit open
abbrev pub with_open_edit : OpenRecord → OpenEdit → OpenRecord
with_open_edit begun edit = record begun { open_edit = Some edit }

-- a record with an edit that begins at this line of the script, whose body follows
abbrev pub with_edit : OpenRecord → List ℕ → ℕ → ℕ → OpenRecord
with_edit begun path place line =
    with_open_edit begun (record { opened = line; edit = record { path = path; line = place; old = []; new = [] } })

-- a record with one more change
abbrev pub with_one_more : OpenRecord → Primitive → OpenRecord
with_one_more begun change = record begun { changes = begun.changes ++ change ∷ []; open_edit = None }

-- the progress after a call on a single line; a fault if the section is full
abbrev pub after_call : ℕ → Progress → Call → Result Progress LineFault
after_call line progress new =
    if is_writing new && is_full progress.calls then fault_at line TooManyCommands else Ok (with_call progress new)

-- the progress after the first line of a record whose changes follow; a fault if the section is full
abbrev pub after_head : ℕ → Progress → OpenRecord → Result Progress LineFault
after_head line progress begun =
    if is_full progress.calls then fault_at line TooManyCommands else Ok (with_record progress begun)

-- the progress after a line `client`: the next section begins
abbrev pub after_client : ℕ → Progress → Result Progress LineFault
after_client line progress =
    if nat_le most_clients (length progress.closed) then fault_at line TooManyClients
    else Ok (record { closed = progress.closed ++ progress.calls ∷ []; calls = []; open_record = None })

-- the progress after the last line of a record; a fault if the record has no change
abbrev pub after_record : ℕ → Progress → OpenRecord → Result Progress LineFault
after_record line progress begun =
    if length begun.changes == 0 then fault_at line BadGroup
    else Ok (with_call progress (call.Record begun.branch begun.name begun.changes))

-- the progress after the last line of a change: a group continues, and a single change ends its record
abbrev pub after_change : ℕ → Progress → OpenRecord → Primitive → Result Progress LineFault
after_change line progress begun change =
    if begun.grouped then Ok (with_record progress (with_one_more begun change))
    else after_record line progress (with_one_more begun change)

-- the fault of a script that ends within a record: its edit or, if none is open, its group has not ended
abbrev pub not_ended : {A : Type 0} → OpenRecord → Option OpenEdit → Result A LineFault
not_ended begun None = fault_at begun.opened GroupNotEnded
not_ended begun (Some edit) = fault_at edit.opened EditNotEnded

-- the sections of a script that ends here, or the fault if a record is open
abbrev pub finished : Progress → Option OpenRecord → Result (List (List Call)) LineFault
finished progress None = Ok (progress.closed ++ progress.calls ∷ [])
finished progress (Some begun) = not_ended begun begun.open_edit
