-- The exit status for a rejected command line.
use Rattle.std.specs.Prelude.{◌≡◌, ◌≢◌, ◌⊎◌, ℕ}
use Rattle.std.specs.declared.io.ErrorKind as io
use Rattle.std.specs.declared.io.ErrorKind.TheVariants.{BrokenPipe}
use Rattle.clap.specs.Words.{kind_of}
use Rattle.clap.specs.declared.error.ErrorKind.{ErrorKind}
use Rattle.clap.specs.declared.error.ErrorKind.TheVariants.{DisplayHelp, DisplayVersion}
use Rattle.camp_options.specs.declared.faults.WordsFault.{WordsFault}
use Rattle.camp_options.specs.declared.faults.WordsFault.TheVariants.{NotText, Refused, Limits, Memory}

-- the words ask for the help text or the version
abbrev pub AsksForText : ErrorKind → Type 0
AsksForText kind = (kind ≡ DisplayHelp) ⊎ (kind ≡ DisplayVersion)

-- the status if output could not be written: 141 for a closed pipe, as after SIGPIPE, else 3
abbrev pub ReportsUnwritten : io.ErrorKind → ℕ → Type 0
ReportsUnwritten kind status = ((kind ≡ BrokenPipe) × (status ≡ 141)) ⊎ ((kind ≢ BrokenPipe) × (status ≡ 3))

-- the status after printing a text: 0, or 3 or 141 if it could not be written
abbrev pub IsPrinted : ℕ → Type 0
IsPrinted status = (status ≡ 0) ⊎ (status ≡ 3) ⊎ (status ≡ 141)

-- the status: 2 if the words are rejected; 0, 3 or 141 if they ask for the help text or the version; 3 if memory ran out
abbrev pub HasStatus : WordsFault → ℕ → Type 0
HasStatus NotText status = status ≡ 2
HasStatus (Refused error) status =
    (AsksForText (kind_of error) → IsPrinted status)
    × (kind_of error ≢ DisplayHelp → kind_of error ≢ DisplayVersion → status ≡ 2)
HasStatus (Limits fault) status = status ≡ 2
HasStatus Memory status = status ≡ 3
