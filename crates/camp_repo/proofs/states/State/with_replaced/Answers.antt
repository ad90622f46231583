use Rattle.camp_repo.proofs.BeginningSteps.{none_hold}
use Rattle.camp_repo.proofs.states.State.with_replaced.Goals as goal

pub with_branch_at-requires-clause-known : goal.with_branch_at-requires-clause-known
with_branch_at-requires-clause-known c = none_hold _ c.none-known.result c.none-known.ensures
