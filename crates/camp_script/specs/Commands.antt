-- The meaning of a line outside groups and bodies, or its fault.
use Rattle.std.specs.Prelude.{ℕ, if◌then◌else◌}
use Rattle.std.specs.Prelude.{List, [], ◌∷◌, Option, None, Some, Result, Ok, bytes_eq, codes}
use Rattle.camp_prim.specs.declared.primitives.Primitive.{Primitive}
use Rattle.camp_prim.specs.declared.primitives.Primitive.TheVariants.{Add, Remove}
use Rattle.camp_call.specs.declared.calls.Call.{Call}
use Rattle.camp_call.specs.declared.calls.Call.TheVariants as call
use Rattle.camp_script.specs.Faults.{fault_at}
use Rattle.camp_script.specs.Lines.{is_skipped}
use Rattle.camp_script.specs.Words.{no_words, one_word, two_words, three_words}
use Rattle.camp_base.specs.Results.{◌>>=◌}
use Rattle.camp_script.specs.Words.{name_at, path_at, number_at, names_at}
use Rattle.camp_script.specs.declared.faults.FaultKind.TheVariants.{UnknownCommand, WrongNumberOfWords}
use Rattle.camp_script.specs.declared.faults.LineFault.{LineFault}

-- the meaning of a line: nothing; a call; the record of an edit, whose body follows; the record of a group, whose
-- changes follow; or the section of the next client
pub data Command : Type 0 where
  Nothing : Command
  Ask : Call → Command
  BeginEdit : (branch name path : List ℕ) → (place : ℕ) → Command
  BeginGroup : (branch name : List ℕ) → Command
  BeginSection : Command

-- `branch NEW FROM`, from `NEW` on
abbrev pub branch_line : ℕ → List (List ℕ) → Result Command LineFault
branch_line line words =
    two_words line words >>= λ pair. name_at line pair.0 >>= λ new. name_at line pair.1 >>= λ from.
    Ok (Ask (call.Branch new from))

-- `record BRANCH NAME add PATH`, and the same with `remove`
abbrev pub whole_record : (List ℕ → Primitive) → ℕ → List ℕ → List ℕ → List ℕ → Result Command LineFault
whole_record change line branch name path =
    name_at line branch >>= λ branch. name_at line name >>= λ name. path_at line path >>= λ path.
    Ok (Ask (call.Record branch name (change path ∷ [])))

-- `record BRANCH NAME edit PATH LINE`; the body follows
abbrev pub edit_record : ℕ → List ℕ → List ℕ → List ℕ → List ℕ → Result Command LineFault
edit_record line branch name path place =
    name_at line branch >>= λ branch. name_at line name >>= λ name. path_at line path >>= λ path.
    number_at line place >>= λ place. Ok (BeginEdit branch name path place)

-- `record BRANCH NAME group`; the changes follow
abbrev pub group_record : ℕ → List ℕ → List ℕ → Result Command LineFault
group_record line branch name =
    name_at line branch >>= λ branch. name_at line name >>= λ name. Ok (BeginGroup branch name)

-- a record: its branch, its name, its change word, and the words after that one
abbrev pub record_of : ℕ → List ℕ → List ℕ → List ℕ → List (List ℕ) → Result Command LineFault
record_of line branch name change words =
    if bytes_eq change (codes "add") then (one_word line words >>= whole_record Add line branch name)
    else (if bytes_eq change (codes "remove") then (one_word line words >>= whole_record Remove line branch name)
    else (if bytes_eq change (codes "edit")
    then (two_words line words >>= λ pair. edit_record line branch name pair.0 pair.1)
    else (if bytes_eq change (codes "group") then (no_words line words >>= λ none. group_record line branch name)
    else fault_at line UnknownCommand)))

-- `record BRANCH NAME ..`, from `BRANCH` on
abbrev pub record_line : ℕ → List (List ℕ) → Result Command LineFault
record_line line words = three_words line words >>= λ head. record_of line head.0 head.1 head.2 head.3

-- the names that a pull lists; without a list it pulls all
abbrev pub names_or_all : List (List ℕ) → Option (List (List ℕ))
names_or_all [] = None
names_or_all (name ∷ names) = Some (name ∷ names)

-- `pull FROM TO` or `pull FROM TO NAME ..`, from `FROM` on
abbrev pub pull_line : ℕ → List (List ℕ) → Result Command LineFault
pull_line line (from ∷ to ∷ names) =
    name_at line from >>= λ from. name_at line to >>= λ to. names_at line names >>= λ names.
    Ok (Ask (call.Pull from to (names_or_all names)))
pull_line line others = fault_at line WrongNumberOfWords

-- `obliterate BRANCH NAME ..`, from `BRANCH` on
abbrev pub obliterate_line : ℕ → List (List ℕ) → Result Command LineFault
obliterate_line line (branch ∷ name ∷ names) =
    name_at line branch >>= λ branch. names_at line (name ∷ names) >>= λ names.
    Ok (Ask (call.Obliterate branch names))
obliterate_line line others = fault_at line WrongNumberOfWords

-- the branch that a question is about
abbrev pub branch_at : ℕ → List (List ℕ) → Result (List ℕ) LineFault
branch_at line words = one_word line words >>= name_at line

-- a question, by its first word and the others
abbrev pub question : ℕ → List ℕ → List (List ℕ) → Result Command LineFault
question line word words =
    if bytes_eq word (codes "tree") then (branch_at line words >>= λ branch. Ok (Ask (call.Tree branch)))
    else (if bytes_eq word (codes "conflicts")
    then (branch_at line words >>= λ branch. Ok (Ask (call.Conflicts branch)))
    else (if bytes_eq word (codes "names") then (branch_at line words >>= λ branch. Ok (Ask (call.Names branch)))
    else fault_at line UnknownCommand))

-- a command without a list of names, by its first word and the others; nothing follows `client`
abbrev pub short_command : ℕ → List ℕ → List (List ℕ) → Result Command LineFault
short_command line word words =
    if bytes_eq word (codes "branch") then branch_line line words
    else (if bytes_eq word (codes "record") then record_line line words
    else (if bytes_eq word (codes "client") then (no_words line words >>= λ none. Ok BeginSection)
    else question line word words))

-- a command, by its first word and the others
abbrev pub command : ℕ → List ℕ → List (List ℕ) → Result Command LineFault
command line word words =
    if bytes_eq word (codes "pull") then pull_line line words
    else (if bytes_eq word (codes "obliterate") then obliterate_line line words
    else short_command line word words)

-- the meaning of the words of a line; blank lines and comments have none
abbrev pub command_of : ℕ → List (List ℕ) → Result Command LineFault
command_of line [] = Ok Nothing
command_of line (word ∷ words) = if is_skipped (word ∷ words) then Ok Nothing else command line word words
