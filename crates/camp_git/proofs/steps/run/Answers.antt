use Rattle.camp_git.proofs.Words.{◌∙◌, arith, map_of, nat_cmp, slice_cmp}
use Rattle.camp_branch.proofs.EffectSteps.{one_runs_on}
use Rattle.camp_git.proofs.TreeSteps.{one_stays}
use Rattle.camp_git.proofs.steps.run.Goals as goal

pub loop-p-preserved : goal.loop-p-preserved
loop-p-preserved c = record {
  runs = one_runs_on c.args.effect.now c.loop-p.p-index c.p-item.result c.p-item.result c.args.tree.now c.loop-p.tree c.apply.new.tree c.loop-p.invariant.runs (omega arith) c.p-item.is c.in-Ok.ensures.exact;
  stays = one_stays (map_of (slice_cmp nat_cmp) c.args.paths.now) (map_of (slice_cmp nat_cmp) c.loop-p.paths) (map_of (slice_cmp nat_cmp) c.in_ok-paths.field-0) c.p-item.result.prim c.in_ok-own.own c.args.tree.now c.loop-p.tree c.apply.new.tree (c.in_ok-own.ensures.exact ∙ c.path.ensures.value) c.in_ok-paths.ensures.exact c.in-Ok.ensures.exact c.loop-p.invariant.stays;
}
