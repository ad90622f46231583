use Rattle.camp_git.proofs.Words.{◌∙◌, ap, arith}
use Rattle.camp_branch.proofs.EffectSteps.{next_effect, one_fits_on}
use Rattle.camp_catch.specs.Catches.{effect_of}
use Rattle.camp_git.proofs.TreeSteps.{stays_on}
use Rattle.camp_git.proofs.steps.step_over.Goals as goal

pub run-requires : goal.run-requires
run-requires c = record {
  runs = next_effect c.args.catches.now c.loop-catch.catch-index c.catch-item.result c.catch-item.result c.effect.result.now c.args.tree.now c.loop-catch.after c.requires.fits.0 c.loop-catch.invariant.fits (omega arith) c.catch-item.is (c.effect.ensures.exact ∙ ap effect_of c.deref.ensures) c.requires.fits.1;
}

pub loop-catch-preserved : goal.loop-catch-preserved
loop-catch-preserved c = record {
  fits = one_fits_on c.args.catches.now c.loop-catch.catch-index c.catch-item.result c.catch-item.result c.effect.result.now c.args.tree.now c.loop-catch.after c.run.new.tree c.loop-catch.invariant.fits (omega arith) c.catch-item.is (c.effect.ensures.exact ∙ ap effect_of c.deref.ensures) c.in_ok-run.ensures.runs;
  stays = stays_on c.loop-catch.paths c.run.new.paths c.args.tree.now c.loop-catch.after c.run.new.tree c.loop-catch.invariant.stays c.in_ok-run.ensures.stays;
}
