-- Results of resolving one change.
use Rattle.std.specs.Prelude.{◌≡◌, Result, Ok, Err}
use Rattle.camp_commits.specs.declared.faults.ChangeError.{ChangeError}
use Rattle.camp_commits.specs.declared.faults.ChangeError.TheVariants as change
use Rattle.camp_commits.specs.declared.faults.WrongChange.{WrongChange}

-- an error: out of memory, or what a definition says is wrong
abbrev pub FailsByChange : {A : Type 0} → ChangeError → Result A WrongChange → Type 0
FailsByChange change.Memory reading = Unit {0}
FailsByChange (change.Wrong why) reading = reading ≡ Err why

-- the result, as a value, is what a definition gives: a value or a fault; or memory ran out
abbrev pub ChangeResolvesTo : {X A : Type 0} → (X → A) → Result X ChangeError → Result A WrongChange → Type 0
ChangeResolvesTo view (Ok found) reading = reading ≡ Ok (view found)
ChangeResolvesTo view (Err why) reading = FailsByChange why reading
