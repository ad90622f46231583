use Rattle.camp_ctx.proofs.AddSteps.{not_past_context}
use Rattle.camp_ctx.proofs.contexted.Contexted.past_one.Goals as goal

pub returns-in_default : goal.returns-in_default
returns-in_default c =
    let never = rw c.in_default.is at c.in_ok-context.ensures.exact in
    record { exact = not_past_context c.args.a.now c.args.x.now _ c.context.ensures.exact never }

pub past_patch-requires : goal.past_patch-requires
past_patch-requires c =
    let past = rw c.in-Some.is at c.in_ok-context.ensures.exact in
    rw c.context.ensures.exact at past
