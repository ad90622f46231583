use Rattle.camp_ctx.proofs.Words.{◌∙◌}
use Rattle.camp_ctx.proofs.Standing.{merge_aside_told}
use Rattle.camp_ctx.proofs.fast.conflicts.are_independent.Goals as goal

pub returns : goal.returns
returns c = λ yes.
    merge_aside_told c.args.x.now c.args.t.now c.items.result.now c.items-2.result.now c.in_ok-patch.patch c.invert-back.result
    (c.has_no_context.ensures.0 c.if-not-has_no_context.false) (c.in_ok-patch.ensures.exact ∙ c.patch.ensures.exact) c.invert-back.ensures.exact
    c.items.ensures.exact (c.stays_past.ensures.sound c.if-not-stays_past.false) c.items-2.ensures.exact (c.is_own_order.ensures.sound yes)
