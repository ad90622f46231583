-- What the functions that read a stream find.
use Rattle.std.specs.Prelude.{◌≡◌, ℕ, Bool, true, false, List, []}
use Rattle.camp_commits.specs.Objects.{Objects}
use Rattle.camp_commits.specs.declared.faults.CommandFault.{CommandFault}
use Rattle.camp_stream.specs.CommandValues.{CommandValue, text_value}
use Rattle.camp_transfer.specs.Reading.{AppliesNext, EndsReading, faulty_path, id_in_stream}
use Rattle.camp_transfer.specs.declared.faults.StopReason.{StopReason}
use Rattle.camp_transfer.specs.declared.faults.StopReason.TheVariants.{Malformed, Command, Unfinished}
use Rattle.camp_transfer.specs.declared.reading.Found.{Found}
use Rattle.camp_transfer.specs.declared.reading.Found.TheVariants.{Next, End}
use Rattle.camp_transfer.specs.declared.reading.StreamEnd.{StreamEnd}
use Rattle.camp_transfer.specs.declared.reading.StreamEnd.TheVariants.{Whole, Stopped}

-- where reading ends if no bytes are left
abbrev pub EndsWithBytes : (announced : Bool) → StreamEnd → Type 0
EndsWithBytes announced Whole = announced ≡ false
EndsWithBytes announced (Stopped stop) = (announced ≡ true) × ((stop.why ≡ Unfinished) × (stop.left ≡ 0))

-- the next command of a stream is applied, or reading ends
abbrev pub GivesNext : (announced : Bool) → Objects → (rest : List ℕ) → Found → Type 0
GivesNext announced objects rest (Next new made left) = AppliesNext announced objects rest made new left.now
GivesNext announced objects rest (End end) = EndsReading announced (rest ≡ []) objects rest end

-- the reason of a fault has the id of the commit and the path that the fault is about
abbrev pub IsReasonFor : CommandFault → CommandValue → StopReason → Type 0
IsReasonFor why command (Malformed kind) = ⊥
IsReasonFor why command Unfinished = ⊥
IsReasonFor why command (Command told commit path) =
    (told ≡ why) × ((text_value commit ≡ id_in_stream command) × (text_value path ≡ faulty_path command why))
