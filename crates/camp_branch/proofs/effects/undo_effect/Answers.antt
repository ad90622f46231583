use Rattle.camp_branch.proofs.Words.{◌-◌, arith}
use Rattle.camp_branch.proofs.EffectSteps.{goes_back, one_back}
use Rattle.camp_branch.proofs.effects.undo_effect.Goals as goal

pub unreachable-requires : goal.unreachable-requires
unreachable-requires c =
    let back = goes_back c.args.effect.now (c.loop-at.at - 1) c.loop-at.at c.index-effect-at.result c.index-effect-at.result c.requires.ran.0 c.loop-at.tree c.args.tree.now (omega arith) c.loop-at.auto.at c.index-effect-at.is c.requires.ran.1 c.loop-at.invariant in
    let never = rw (c.in-Err-DoesNotApply.is, c.in-Err-DoesNotApply.field-0-is) at c.apply_inverse.ensures in
    never.0 back.0 back.1

pub loop-at-preserved : goal.loop-at-preserved
loop-at-preserved c =
    one_back c.args.effect.now (c.loop-at.at - 1) c.loop-at.at c.index-effect-at.result c.index-effect-at.result c.loop-at.tree c.apply_inverse.new.tree c.args.tree.now (omega arith) c.loop-at.auto.at c.index-effect-at.is c.loop-at.invariant c.in-Ok.ensures
