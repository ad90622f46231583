use Rattle.camp_ctx.proofs.AddSteps.{one_added}
use Rattle.camp_ctx.proofs.contexted.Contexted.add_one.Goals as goal

pub returns : goal.returns
returns c = record { exact = one_added c.args.a.now _ c.args.x.now _ _ c.from_ref.ensures.value c.in_ok-copy.ensures.exact c.in_ok-sum.ensures }
