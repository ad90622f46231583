-- The result of a run, given the contents of its reader and its writer, before and after, if they are known.
use Rattle.std.specs.Prelude.{ℕ, Bool, List, Option, Result, Ok, Err}
use Rattle.std.specs.Io.KnownBytes.{Appends, Keeps}
use Rattle.camp_call.specs.declared.calls.Call.{Call}
use Rattle.camp_script.specs.Writing.{AppendsProperPrefix}
use Rattle.camp_run.specs.Inputs.{ReadsAs}
use Rattle.camp_run.specs.Outputs.{RunRelation, IsOutput}
use Rattle.camp_run.specs.declared.faults.RunFault.{RunFault}
use Rattle.camp_run.specs.declared.faults.RunFault.TheVariants.{Script, Foreign, Memory, Read, Write}

-- a script was read, and this is the text of its result
pub record HasOutput (Relates : RunRelation) (wants_history : Bool) (remaining rest : Option (List ℕ)) (text : List ℕ)
    : Type 0 where
  pub script : List (List Call)
  pub reads : ReadsAs remaining rest (Ok script)
  pub is_output : IsOutput Relates wants_history script text

-- Ok: a script was read, and exactly its output was written. A fault of the script: it is the first one, and nothing
-- was written. A foreign call, out of memory, or an error of the reader: nothing was written. An error of the writer: a
-- script was read, and a proper prefix of its output was written.
abbrev pub Runs : RunRelation → Bool
    → Option (List ℕ) → Option (List ℕ) → Option (List ℕ) → Result (Unit {0}) RunFault → Option (List ℕ) → Type 0
Runs Relates wants_history remaining rest old (Ok done) new =
    (text : List ℕ) × HasOutput Relates wants_history remaining rest text × Appends old new text
Runs Relates wants_history remaining rest old (Err (Script fault)) new =
    ReadsAs remaining rest (Err fault) × Keeps old new
Runs Relates wants_history remaining rest old (Err Foreign) new = Keeps old new
Runs Relates wants_history remaining rest old (Err Memory) new = Keeps old new
Runs Relates wants_history remaining rest old (Err Read) new = Keeps old new
Runs Relates wants_history remaining rest old (Err Write) new =
    (text : List ℕ) × HasOutput Relates wants_history remaining rest text × AppendsProperPrefix old new text

-- why there is no text to write: the first fault of the script, a foreign call, out of memory or an error of the reader
abbrev pub HasNoOutput : Option (List ℕ) → Option (List ℕ) → RunFault → Type 0
HasNoOutput remaining rest (Script fault) = ReadsAs remaining rest (Err fault)
HasNoOutput remaining rest Foreign = Unit {0}
HasNoOutput remaining rest Memory = Unit {0}
HasNoOutput remaining rest Read = Unit {0}
HasNoOutput remaining rest Write = ⊥

-- the fault is not `Foreign`; in such runs nobody else can ask a call
abbrev pub IsNotForeign : RunFault → Type 0
IsNotForeign (Script fault) = Unit {0}
IsNotForeign Foreign = ⊥
IsNotForeign Memory = Unit {0}
IsNotForeign Read = Unit {0}
IsNotForeign Write = Unit {0}
