-- How faults of a run are reported.
use Rattle.std.specs.Prelude.{◌≡◌, ◌≢◌, ◌⊎◌, ℕ, List, codes}
use Rattle.std.specs.declared.io.ErrorKind as io
use Rattle.std.specs.declared.io.ErrorKind.TheVariants.{OutOfMemory}
use Rattle.camp_script.specs.Faults.{line_words}
use Rattle.camp_run.specs.declared.faults.RunFault.{RunFault}
use Rattle.camp_run.specs.declared.faults.RunFault.TheVariants.{Script, Foreign, Memory, Read, Write}

-- the words that report a fault
abbrev pub run_fault_words : RunFault → List ℕ
run_fault_words (Script fault) = line_words fault
run_fault_words Foreign = codes "foreign call"
run_fault_words Memory = codes "out of memory"
run_fault_words Read = codes "cannot read input"
run_fault_words Write = codes "cannot write output"

-- the fault that reports an error of the reader: it says that memory ran out, or anything else
abbrev pub ReportsUnread : io.ErrorKind → RunFault → Type 0
ReportsUnread error fault = ((error ≡ OutOfMemory) × (fault ≡ Memory)) ⊎ ((error ≢ OutOfMemory) × (fault ≡ Read))

-- the exit status: 1 if the script has a fault, and 3 if memory, the lock, the input or the output failed
abbrev pub status_of : RunFault → ℕ
status_of (Script fault) = 1
status_of Foreign = 3
status_of Memory = 3
status_of Read = 3
status_of Write = 3
