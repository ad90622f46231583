use Rattle.camp_branch.proofs.Words.{◌∙◌, ap, arith, effect_of}
use Rattle.camp_branch.proofs.EffectSteps.{next_effect, one_fits_on}
use Rattle.camp_branch.proofs.effects.tree_after.Goals as goal

pub apply_effect-requires : goal.apply_effect-requires
apply_effect-requires c = record {
  runs = next_effect c.args.catches.now c.loop-catch.catch-index c.catch-item.result c.catch-item.result c.effect.result.now c.args.tree.now c.loop-catch.after c.requires.fits.0 c.loop-catch.invariant (omega arith) c.catch-item.is (c.effect.ensures.exact ∙ ap effect_of c.deref.ensures) c.requires.fits.1;
}

pub loop-catch-preserved : goal.loop-catch-preserved
loop-catch-preserved c =
    one_fits_on c.args.catches.now c.loop-catch.catch-index c.catch-item.result c.catch-item.result c.effect.result.now c.args.tree.now c.loop-catch.after c.apply_effect.new.tree c.loop-catch.invariant (omega arith) c.catch-item.is (c.effect.ensures.exact ∙ ap effect_of c.deref.ensures) c.in_ok-apply_effect.ensures
