-- The script that bytes represent, section by section, or its first fault: the pieces of its lines are read in order.
use Rattle.std.specs.Prelude.{ℕ, Bool, ◌&&◌, nat_le, if◌then◌else◌}
use Rattle.std.specs.Prelude.{List, [], ◌∷◌, ◌++◌, length, count_by, Result, Ok}
use Rattle.camp_call.specs.Calls.{is_writing}
use Rattle.camp_call.specs.declared.calls.Call.{Call}
use Rattle.camp_call.specs.declared.calls.Call.TheVariants as call
use Rattle.camp_script.specs.Changes.{parsed_edit, group_of}
use Rattle.camp_script.specs.Commands.{Command, Nothing, Ask, BeginEdit, BeginGroup, BeginSection, command_of}
use Rattle.camp_script.specs.Faults.{fault_at}
use Rattle.camp_script.specs.Lines.{lines_of}
use Rattle.camp_script.specs.Pieces.{Piece, Item, numbered, words_on, line_entries, items_of, item_line, first_section, clients_of}
use Rattle.camp_script.specs.Sections.{most_sections, most_writing_calls}
use Rattle.camp_script.specs.Words.{fold_results}
use Rattle.camp_base.specs.Results.{◌>>=◌}
use Rattle.camp_script.specs.declared.faults.FaultKind.TheVariants.{TooManyClients, TooManyCommands}
use Rattle.camp_script.specs.declared.faults.LineFault.{LineFault}

-- a section has as many writing calls as it may have
abbrev pub is_full : List Call → Bool
is_full calls = nat_le most_writing_calls (count_by is_writing calls)

-- a fault at this line if the section is full; it is checked before the record at that line is parsed
abbrev pub check_limit_at : ℕ → List Call → Result (Unit {0}) LineFault
check_limit_at line calls = if is_full calls then fault_at line TooManyCommands else Ok tt

-- the meaning of the first line of an item
abbrev pub command_of_item : Item → Result Command LineFault
command_of_item item = command_of (item_line item).number (words_on (item_line item))

-- the calls of a section after an item with this meaning; no item of a section begins the next section
abbrev pub with_command : List Call → Item → Command → Result (List Call) LineFault
with_command calls item Nothing = Ok calls
with_command calls item (Ask new) =
    if is_writing new && is_full calls then fault_at (item_line item).number TooManyCommands
    else Ok (calls ++ new ∷ [])
with_command calls item (BeginEdit branch name path place) =
    check_limit_at (item_line item).number calls >>= λ room.
    parsed_edit (item_line item).number path place item.head.rest >>= λ change.
    Ok (calls ++ call.Record branch name (change ∷ []) ∷ [])
with_command calls item (BeginGroup branch name) =
    check_limit_at (item_line item).number calls >>= λ room. group_of (item_line item).number item.rest >>= λ changes.
    Ok (calls ++ call.Record branch name changes ∷ [])
with_command calls item BeginSection = Ok calls

-- the calls of a section after an item
abbrev pub after_item : List Call → Item → Result (List Call) LineFault
after_item calls item = command_of_item item >>= with_command calls item

-- the sections with one more client; a fault if the script has 64
abbrev pub after_client : List (List Call) → Piece Item → Result (List (List Call)) LineFault
after_client sections client =
    command_of_item client.head >>= λ begins.
    if nat_le most_sections (length sections) then fault_at (item_line client.head).number TooManyClients
    else (fold_results after_item [] client.rest >>= λ calls. Ok (sections ++ calls ∷ []))

-- the script that lines represent: the calls of the opening, followed by those of each client
abbrev pub script_of_lines : List (List ℕ) → Result (List (List Call)) LineFault
script_of_lines lines =
    let items = items_of (line_entries (numbered 1 lines)) in
    fold_results after_item [] (first_section items) >>= λ calls. fold_results after_client (calls ∷ []) (clients_of items)

-- the script that bytes represent
abbrev pub script_of : List ℕ → Result (List (List Call)) LineFault
script_of bytes = script_of_lines (lines_of bytes)
