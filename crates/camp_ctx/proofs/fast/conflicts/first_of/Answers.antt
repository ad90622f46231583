use Rattle.camp_ctx.proofs.Words.{◌∙◌}
use Rattle.camp_ctx.proofs.Standing.{first_of_context}
use Rattle.camp_ctx.proofs.fast.conflicts.first_of.Goals as goal

pub returns-in-Some : goal.returns-in-Some
returns-in-Some c =
    first_of_context c.args.x.now c.items.result.now c.in-Some.p.now (c.items.ensures.exact ∙ c.context.ensures.exact) (rw c.in-Some.is at c.first.ensures.value)
