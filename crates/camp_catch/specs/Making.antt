-- Results that may be blocked or run out of memory.
use Rattle.std.specs.Prelude.{Result, Ok, Err}
use Rattle.camp_catch.specs.declared.faults.Unmade.{Unmade}
use Rattle.camp_catch.specs.declared.faults.Unmade.TheVariants.{Blocked, Memory}

-- if a result is blocked, `By` holds of the reason; out of memory is always allowed
abbrev pub IfBlocked : {W : Type 0} → (W → Type 0) → Unmade W → Type 0
IfBlocked By (Blocked why) = By why
IfBlocked By Memory = Unit {0}

-- the result is the given outcome, or out of memory
abbrev pub GivesOrRunsOut : {X W : Type 0} → (Result X W → Type 0) → Result X (Unmade W) → Type 0
GivesOrRunsOut Outcome (Ok made) = Outcome (Ok made)
GivesOrRunsOut Outcome (Err why) = IfBlocked (λ what. Outcome (Err what)) why
