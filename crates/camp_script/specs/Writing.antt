-- What writing a text leaves of the known bytes of a writer.
use Rattle.std.specs.Prelude.{◌≡◌, ◌<◌, ℕ, List, ◌++◌, length, Option, Result, Ok, Err}
use Rattle.std.specs.Io.KnownBytes.{Appends, Keeps}
use Rattle.camp_script.specs.declared.faults.WriteFault.{WriteFault}
use Rattle.camp_script.specs.declared.faults.WriteFault.TheVariants.{Memory, Write}

-- the known bytes grow by a proper prefix of a text
abbrev pub AppendsProperPrefix : Option (List ℕ) → Option (List ℕ) → List ℕ → Type 0
AppendsProperPrefix old new text =
    (done : List ℕ) × (rest : List ℕ) × (text ≡ done ++ rest) × (0 < length rest) × Appends old new done

-- after Ok the known bytes have grown by the whole text; after out of memory they are unchanged; after an error of the
-- writer they have grown by a proper prefix of the text
abbrev pub Writes : Option (List ℕ) → List ℕ → Result (Unit {0}) WriteFault → Option (List ℕ) → Type 0
Writes old text (Ok done) new = Appends old new text
Writes old text (Err Memory) new = Keeps old new
Writes old text (Err (Write error)) new = AppendsProperPrefix old new text
