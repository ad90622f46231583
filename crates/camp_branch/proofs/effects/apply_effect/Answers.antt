use Rattle.camp_branch.proofs.Words.{arith}
use Rattle.camp_branch.proofs.EffectSteps.{one_runs_on}
use Rattle.camp_branch.proofs.effects.apply_effect.Goals as goal

pub loop-p-preserved : goal.loop-p-preserved
loop-p-preserved c =
    one_runs_on c.args.effect.now c.loop-p.p-index c.p-item.result c.p-item.result c.args.tree.now c.loop-p.tree c.apply.new.tree c.loop-p.invariant (omega arith) c.p-item.is c.in-Ok.ensures.exact
