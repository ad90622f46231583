-- A call and the state after it.
use Rattle.std.specs.Prelude.{◌≡◌}
use Rattle.camp_call.specs.declared.calls.Call.{Call}
use Rattle.camp_object.specs.declared.objects.Decided.TheVariants.{Next}
use Rattle.camp_repo.specs.Lawful.{IsLawfulState}
use Rattle.camp_repo.specs.States.{Contents}
use Rattle.camp_repo.specs.Steps.{step}

-- a call was accepted at a lawful state, and led to the next one
pub record LedTo (call : Call) (state next : Contents) : Type 0 where
  pub lawful : IsLawfulState state
  pub leads : step state call ≡ Next next
