-- The change at which a record stops, and why.
use Rattle.std.specs.Prelude.{◌≡◌, ◌<◌, ℕ, suc, nat_lt, List, [], ◌∷◌, length, slice_get, take, Option, None, Some, if◌then◌else◌}
use Rattle.std.specs.FinMap.{get}
use Rattle.camp_base.specs.Trees.{Files, Lines}
use Rattle.camp_prim.specs.Applied.{applied}
use Rattle.camp_prim.specs.Effect.{Applies}
use Rattle.camp_prim.specs.Commuting.{path_of}
use Rattle.camp_prim.specs.declared.primitives.Primitive.{Primitive}
use Rattle.camp_branch.specs.Laws.{AppliesEach}
use Rattle.camp_call.specs.declared.replies.Refusal.{Refusal}
use Rattle.camp_call.specs.declared.replies.Refusal.TheVariants.{DoesNotApply, TooLarge}
use Rattle.camp_repo.specs.Steps.{longest_file}
use Rattle.camp_why.specs.Misfits.{IsMisfit, find_misfit}
use Rattle.camp_why.specs.declared.misfits.Misfit.{Misfit as Reason}
use Rattle.camp_why.specs.declared.stops.Hindrance.{Hindrance}
use Rattle.camp_why.specs.declared.stops.Hindrance.TheVariants.{Misfit, TooLong}
use Rattle.camp_why.specs.declared.stops.Stop.{Stop}

-- ---- the reported change and reason

-- the reason if a file is too long, given what is at its path; else none
abbrev pub long_file : Option Lines → Option Hindrance
long_file None = None
long_file (Some lines) = if nat_lt longest_file (length lines) then Some (TooLong (length lines)) else None

-- the reason if the file of a change is too long in this tree; else none
abbrev pub made_long : List ℕ → Option Files → Option Hindrance
made_long path None = None
made_long path (Some next) = long_file (get next path)

-- the first reason, if there is one, else the second
abbrev pub hindrance_or : Option Reason → Option Hindrance → Option Hindrance
hindrance_or None other = other
hindrance_or (Some why) other = Some (Misfit why)

-- why a record stops at a change to this tree: it does not apply, or its file would be too long
abbrev pub hindrance : Primitive → Files → Option Hindrance
hindrance change tree = hindrance_or (find_misfit change tree) (made_long (path_of change) (applied change tree))

-- stops here, or continues with this tree
abbrev pub stop_or : ℕ → Primitive → Option Hindrance → Option Files → (Files → Option Stop) → Option Stop
stop_or at change (Some why) next goes_on = Some (record { change = at; path = path_of change; why = why })
stop_or at change None None goes_on = None
stop_or at change None (Some next) goes_on = goes_on next

-- the first of these changes at which a record stops, applied one after the other; they are numbered from this number
-- on
abbrev pub first_stop : ℕ → List Primitive → Files → Option Stop
first_stop at [] tree = None
first_stop at (change ∷ changes) tree =
    stop_or at change (hindrance change tree) (applied change tree) (first_stop (suc at) changes)

-- ---- the meaning of a stop

-- a change leads to a tree in which its file has this number of lines, more than a record allows
pub record MakesLong (change : Primitive) (tree : Files) (count : ℕ) : Type 0 where
  pub next : Files
  pub applies : Applies change tree next
  pub lines : Lines
  pub found : get next (path_of change) ≡ Some lines
  pub counts : count ≡ length lines
  pub long : longest_file < count

-- a record stops at a change to this tree, and this is why
abbrev pub IsHindrance : Primitive → Files → Hindrance → Type 0
IsHindrance change tree (Misfit why) = IsMisfit change tree why
IsHindrance change tree (TooLong count) = MakesLong change tree count

-- the refusal for a reason to stop
abbrev pub refusal_at : Hindrance → Refusal
refusal_at (Misfit why) = DoesNotApply
refusal_at (TooLong count) = TooLarge

-- a record stops here: the changes before this one lead to a tree, to which this one can't be applied
pub record IsStop (changes : List Primitive) (tree : Files) (stop : Stop) : Type 0 where
  pub before : ℕ
  pub numbered : stop.change ≡ suc before
  pub met : Files
  pub leads : AppliesEach (take before changes) tree met
  pub change : Primitive
  pub is : slice_get changes before ≡ Some change
  pub of_file : stop.path ≡ path_of change
  pub hinders : IsHindrance change met stop.why
