-- The result of an export, and what it leaves in its writer.
use Rattle.std.specs.Prelude.{◌≡◌, ℕ, List, Option, None, Some, Result, Ok, Err}
use Rattle.std.specs.Io.KnownBytes.{Appends, Keeps}
use Rattle.camp_catch.specs.declared.catches.Catch.{Catch}
use Rattle.camp_repo.specs.States.{Contents, catches_of}
use Rattle.camp_script.specs.Writing.{AppendsProperPrefix}
use Rattle.camp_git.specs.Exports.{IsExport, IsUnheld}
use Rattle.camp_git.specs.declared.faults.Unexported.{Unexported}
use Rattle.camp_git.specs.declared.faults.Unexported.TheVariants.{NoBranch, Unheld, Memory, Write}

-- a text is an export of the branch of a name
abbrev pub ExportOf : Contents → List ℕ → List ℕ → Type 0
ExportOf state name text =
    (branch : List Catch) × (catches_of state.branches name ≡ Some branch) × IsExport name branch text

-- Ok: an export of the branch was appended. If there is no branch of the name, if git can't store a tree of it, or if
-- memory ran out, nothing was written. If the writer failed, a prefix of an export was written.
abbrev pub Exports : Contents → List ℕ → Option (List ℕ) → Result (Unit {0}) Unexported → Option (List ℕ) → Type 0
Exports state name old (Ok done) new = (text : List ℕ) × ExportOf state name text × Appends old new text
Exports state name old (Err (NoBranch missing)) new =
    (missing ≡ name) × (catches_of state.branches name ≡ None) × Keeps old new
Exports state name old (Err (Unheld patch path)) new =
    (branch : List Catch) × (catches_of state.branches name ≡ Some branch)
    × IsUnheld branch patch path × Keeps old new
Exports state name old (Err Memory) new =
    (branch : List Catch) × (catches_of state.branches name ≡ Some branch) × Keeps old new
Exports state name old (Err (Write error)) new =
    (text : List ℕ) × ExportOf state name text × AppendsProperPrefix old new text
