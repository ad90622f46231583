-- Definitions for private functions: the end of a change, and whether lines occur at a line number of a file.
use Rattle.std.specs.Prelude.{◌≡◌, ℕ, ◌-◌, ◌<◌, ◌≤◌, length, take, drop, Result, Ok, Err}
use Rattle.camp_base.specs.Trees.{Lines}
use Rattle.camp_base.specs.declared.faults.Apply.{Apply}
use Rattle.camp_base.specs.declared.faults.Apply.TheVariants.{DoesNotApply, Memory}

-- Ok: the value has become the wanted one. Else memory ran out, and the value is unchanged
abbrev pub Steps : {S : Type 0} → S → S → Result (Unit {0}) Apply → S → Type 0
Steps wanted old (Ok done) new = new ≡ wanted
Steps wanted old (Err DoesNotApply) new = ⊥
Steps wanted old (Err Memory) new = new ≡ old

-- the lines from `line` on, counted from 1, begin with `front`
pub record StandsAt (line : ℕ) (front lines : Lines) : Type 0 where
  pub positive : 0 < line
  pub within : line - 1 ≤ length lines
  pub same : take (length front) (drop (line - 1) lines) ≡ front
