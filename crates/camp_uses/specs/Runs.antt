-- The result of a run in memory.
use Rattle.std.specs.Prelude.{◌≡◌, ℕ, Bool, List, Ok, Err}
use Rattle.camp_call.specs.declared.calls.Call.{Call}
use Rattle.camp_repo.specs.Limits.{default_bounds}
use Rattle.camp_run.specs.Outputs.{IsOutput}
use Rattle.camp_run.specs.Serial.{IsSerial}
use Rattle.camp_run.specs.declared.faults.RunFault.{RunFault}
use Rattle.camp_run.specs.declared.faults.RunFault.TheVariants.{Script, Foreign}
use Rattle.camp_script.specs.Reading.{script_of}

-- the bytes are a script, and a text is the output of its sections, asked one after the other of a repository with the
-- default limits
abbrev pub IsOutputOf : List ℕ → Bool → List ℕ → Type 0
IsOutputOf bytes history text =
    (script : List (List Call)) × (script_of bytes ≡ Ok script) × IsOutput (IsSerial default_bounds) history script text

-- a fault of the script is its first one, and no call is foreign
abbrev pub IsRunFaultOf : List ℕ → RunFault → Type 0
IsRunFaultOf bytes (Script fault) = script_of bytes ≡ Err fault
IsRunFaultOf bytes Foreign = ⊥
IsRunFaultOf bytes other = Unit {0}
