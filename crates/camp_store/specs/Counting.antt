-- The relation between reported faults and the number of disk calls that have failed.
use Rattle.std.specs.Prelude.{◌≡◌, ℕ, Result, MatchResult}
use Rattle.sqlite_disk.specs.Disk.{MoreFaults}
use Rattle.camp_store.specs.declared.faults.StoreFault.{StoreFault}
use Rattle.camp_store.specs.declared.faults.StoreFault.TheVariants.{Damaged, Disk, Failed, Memory, TooLong}

-- `Disk` is reported only if a disk call has failed, and any other fault only if none has
abbrev pub ReportsFault : StoreFault → ℕ → ℕ → Type 0
ReportsFault (Disk error) old new = MoreFaults old new
ReportsFault other old new = new ≡ old

-- after `Ok`, and after any fault but `Disk`, no disk call has failed; after `Disk`, one has
abbrev pub CountsFaults : {T : Type 0} → Result T StoreFault → ℕ → ℕ → Type 0
CountsFaults result old new = MatchResult result (λ _. new ≡ old) (λ why. ReportsFault why old new)
