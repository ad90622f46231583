use Rattle.camp_ctx.proofs.Words.{subst, AddsAll}
use Rattle.camp_ctx.proofs.AddSteps.{added_in_parts}
use Rattle.camp_ctx.proofs.contexted.Contexted.add.Goals as goal

pub returns : goal.returns
returns c = record { exact = subst (λ r. AddsAll r c.args.x.now c.in_ok-all.all) c.items-items.ensures.exact (added_in_parts c.items-items.result.now _ c.args.x.now _ _ c.in_ok-start.ensures.added c.in_ok-all.ensures) }
