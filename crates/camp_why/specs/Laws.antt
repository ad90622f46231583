-- The laws of causes, reasons and hints.
use Rattle.std.specs.Prelude.{◌≡◌, Bool, true, None, Some}
use Rattle.std.specs.List.{AllByRecursion}
use Rattle.camp_base.specs.Trees.{Files}
use Rattle.camp_prim.specs.Effect.{Applies, InRange}
use Rattle.camp_prim.specs.declared.primitives.Primitive.{Primitive}
use Rattle.camp_call.specs.Calls.{IsCall}
use Rattle.camp_call.specs.declared.calls.Call.{Call}
use Rattle.camp_call.specs.declared.calls.Call.TheVariants as call
use Rattle.camp_call.specs.declared.replies.Refusal.{Refusal}
use Rattle.camp_repo.specs.Lawful.{IsLawfulState}
use Rattle.camp_repo.specs.States.{Contents}
use Rattle.camp_repo.specs.Steps.{refused, step}
use Rattle.camp_why.specs.Causes.{IsSo, explained, is_of_changes, is_of_limit, refusal_by}
use Rattle.camp_why.specs.Misfits.{IsMisfit, find_misfit}
use Rattle.camp_why.specs.declared.causes.Cause.{Cause}
use Rattle.camp_why.specs.declared.misfits.Misfit.{Misfit}

-- the reported reason is true, and then the change does not apply; if none is reported, it applies
pub record MisfitsAreReasons : Type 0 where
  pub reported : (change : Primitive) (tree : Files) (why : Misfit) → find_misfit change tree ≡ Some why → IsMisfit change tree why
  pub prevents : (change : Primitive) (tree next : Files) (why : Misfit) → IsMisfit change tree why → ¬ (Applies change tree next)
  pub none : (change : Primitive) (tree : Files) → InRange change → find_misfit change tree ≡ None → (next : Files) × Applies change tree next

-- a refusal of a call has a cause that the refusal alone does not say: a limit, or a change of a record
abbrev pub wants_cause : Call → Refusal → Bool
wants_cause (call.Record branch name changes) refusal = is_of_changes refusal
wants_cause other refusal = is_of_limit refusal

-- the reported cause explains this refusal, and what it says is true
pub record IsExplained (state : Contents) (request : Call) (refusal : Refusal) : Type 0 where
  pub cause : Cause
  pub reported : explained state request refusal ≡ Some cause
  pub of : refusal_by cause ≡ refusal
  pub is_so : IsSo state request cause

-- the changes of a call are in range, as all changes are that a program can represent
abbrev pub ChangesAreInRange : Call → Type 0
ChangesAreInRange (call.Record branch name changes) = AllByRecursion InRange changes
ChangesAreInRange other = Unit {0}

-- if a call is refused at a state and the refusal alone does not say why, a cause is reported
abbrev pub RefusalsAreExplained : Type 0
RefusalsAreExplained =
    (state : Contents) (request : Call) (refusal : Refusal) → IsLawfulState state → IsCall request → ChangesAreInRange request →
    step state request ≡ refused refusal → wants_cause request refusal ≡ true → IsExplained state request refusal
