use Rattle.camp_ctx.proofs.ConflictLaws.{are_symmetric}
use Rattle.camp_ctx.proofs.laws.conflict_is_symmetric.Goals as goal

pub returns : goal.returns
returns c = record { law = are_symmetric }
