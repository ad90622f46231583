use Rattle.camp_branch.proofs.Words.{◌-◌, arith, ◌∙◌, ap, effect_of}
use Rattle.camp_branch.proofs.EffectSteps.{effect_goes_back, one_effect_back}
use Rattle.camp_branch.proofs.effects.tree_before.Goals as goal

pub undo_effect-requires : goal.undo_effect-requires
undo_effect-requires c = record {
  ran = effect_goes_back c.args.catches.now (c.loop-at.at - 1) c.loop-at.at c.index-catches-at.result c.index-catches-at.result c.effect.result.now c.requires.led.0 c.loop-at.before c.args.tree.now (omega arith) c.loop-at.auto.at c.index-catches-at.is (c.effect.ensures.exact ∙ ap effect_of c.deref.ensures) c.requires.led.1 c.loop-at.invariant;
}

pub loop-at-preserved : goal.loop-at-preserved
loop-at-preserved c =
    one_effect_back c.args.catches.now (c.loop-at.at - 1) c.loop-at.at c.index-catches-at.result c.index-catches-at.result c.effect.result.now c.loop-at.before c.undo_effect.new.tree c.args.tree.now (omega arith) c.loop-at.auto.at c.index-catches-at.is (c.effect.ensures.exact ∙ ap effect_of c.deref.ensures) c.loop-at.invariant c.in_ok-undo_effect.ensures
