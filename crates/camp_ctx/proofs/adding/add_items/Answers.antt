use Rattle.std.proofs.lemmas.Result.{IfOk-weaker}
use Rattle.camp_ctx.proofs.AddSteps.{added_in_parts}
use Rattle.camp_ctx.proofs.adding.add_items.Goals as goal

pub returns : goal.returns
returns c =
    IfOk-weaker c.add_to_copy.result _ _ (λ y adds. added_in_parts c.args.r.now c.changing-count.result c.args.x c.args.x y c.changing-count.ensures.added adds) c.add_to_copy.ensures
