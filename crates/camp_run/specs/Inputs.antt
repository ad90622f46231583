-- What a run reads.
use Rattle.std.specs.Prelude.{◌≡◌, ℕ, List, Option, Result, IfSome}
use Rattle.std.specs.Io.KnownBytes.{IsAtEnd}
use Rattle.camp_call.specs.declared.calls.Call.{Call}
use Rattle.camp_script.specs.Reading.{script_of}
use Rattle.camp_script.specs.declared.faults.LineFault.{LineFault}

-- these bytes were read: if the contents of the reader are known, they are exactly these, and nothing is left
pub record ReadsAll (remaining rest : Option (List ℕ)) (bytes : List ℕ) : Type 0 where
  pub all : IfSome remaining (λ all. bytes ≡ all)
  pub end : IsAtEnd rest

-- the input was read to its end, and is a script of these sections, or has this first fault
pub record ReadsAs (remaining rest : Option (List ℕ)) (script : Result (List (List Call)) LineFault) : Type 0 where
  pub bytes : List ℕ
  pub reads : ReadsAll remaining rest bytes
  pub is_script : script_of bytes ≡ script
