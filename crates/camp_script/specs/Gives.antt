-- The result of a reader: what the definitions say, unless memory ran out.
use Rattle.std.specs.Prelude.{◌≡◌, ◌≢◌, ℕ, List, Result, Ok, Err, IfOk}
use Rattle.std.specs.declared.alloc.AllocError.{AllocError}
use Rattle.camp_script.specs.declared.faults.LineFault.{LineFault}
use Rattle.camp_script.specs.declared.faults.ScriptFault.{ScriptFault}
use Rattle.camp_script.specs.declared.faults.ScriptFault.TheVariants.{Line, Memory}
use Rattle.camp_script.specs.Words.{path_at}

-- the fault of a line is the one that reading gives; out of memory is always allowed
abbrev pub IsFaultOf : {A : Type 0} → ScriptFault → Result A LineFault → Type 0
IsFaultOf (Line fault) reading = reading ≡ Err fault
IsFaultOf Memory reading = Unit {0}

-- the result is the value or the fault that reading gives, or out of memory
abbrev pub Gives : {A : Type 0} → Result A ScriptFault → Result A LineFault → Type 0
Gives (Ok value) reading = reading ≡ Ok value
Gives (Err fault) reading = IsFaultOf fault reading

-- reading gives no fault
abbrev pub HasNoFault : {A : Type 0} → Result A LineFault → Type 0
HasNoFault (Ok value) = Unit {0}
HasNoFault (Err fault) = ⊥

-- the fault of a line is the one that reading gives; out of memory is allowed only if reading gives no fault
abbrev pub IsFaultFirst : {A : Type 0} → ScriptFault → Result A LineFault → Type 0
IsFaultFirst (Line fault) reading = reading ≡ Err fault
IsFaultFirst Memory reading = HasNoFault reading

-- as `Gives`, but out of memory is allowed only if reading gives no fault
abbrev pub GivesFaultFirst : {A : Type 0} → Result A ScriptFault → Result A LineFault → Type 0
GivesFaultFirst (Ok value) reading = reading ≡ Ok value
GivesFaultFirst (Err fault) reading = IsFaultFirst fault reading

-- the result of a step that changes the reader in place: after `Ok` the reader is what reading gives; an error is the
-- fault that reading gives, or out of memory if it gives none. After an error the reader is dropped, so its value does
-- not matter.
abbrev pub Advances : {A : Type 0} → Result (Unit {0}) ScriptFault → A → Result A LineFault → Type 0
Advances (Ok done) new reading = reading ≡ Ok new
Advances (Err fault) new reading = IsFaultFirst fault reading

-- a word that is a path gives `Ok`, with the path or out of memory inside; any other word gives its fault. So the outer
-- result is never out of memory, and a caller can report a later fault rather than out of memory.
abbrev pub GivesPath : Result (Result (List ℕ) AllocError) ScriptFault → ℕ → List ℕ → Type 0
GivesPath (Ok made) line word = (path_at line word ≡ Ok word) × IfOk made (λ path. path ≡ word)
GivesPath (Err fault) line word = IsFaultFirst fault (path_at line word) × (fault ≢ Memory)
