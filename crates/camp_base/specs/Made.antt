-- The results of the constructors of paths and lines.
use Rattle.std.specs.Prelude.{◌≡◌, ℕ, Bool, true, false, List, Result, Ok, Err}
use Rattle.camp_base.specs.declared.faults.BaseFault.{BaseFault}
use Rattle.camp_base.specs.declared.faults.BaseFault.TheVariants.{Memory}

-- valid bytes give a value of exactly these bytes, or out of memory; any others give this error
abbrev pub Makes : Bool → BaseFault → List ℕ → Result (List ℕ) BaseFault → Type 0
Makes true fault bytes (Ok made) = made ≡ bytes
Makes true fault bytes (Err other) = other ≡ Memory
Makes false fault bytes result = result ≡ Err fault
