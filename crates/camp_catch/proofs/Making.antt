-- What blocks a step blocks the whole.
use Rattle.camp_catch.specs.Making.{IfBlocked}
use Rattle.camp_catch.specs.declared.faults.Unmade.{Unmade}
use Rattle.camp_catch.specs.declared.faults.Unmade.TheVariants.{Blocked, Memory}

-- if a step is blocked or runs out of memory, so does the whole
pub blocks_too : {W : Type 0} {Step Whole : W → Type 0} (why : Unmade W) → IfBlocked Step why → ((what : W) → Step what → Whole what) → IfBlocked Whole why
blocks_too (Blocked what) w blocks = blocks what w
blocks_too Memory w blocks = tt
