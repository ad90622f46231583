use Rattle.camp_git.proofs.Words.{drop}
use Rattle.camp_branch.proofs.EffectSteps.{RunsOn}
use Rattle.camp_git.specs.Inside.Steps.{StaysBesideNew}
use Rattle.camp_git.proofs.steps.run.Given as goal

abbrev pub invariant-loop-p : goal.invariant-loop-p
invariant-loop-p l = record {
  runs : RunsOn l.effect l.initial.tree (drop l.p-index l.effect) l.tree;
  stays : StaysBesideNew l.initial.paths l.paths l.initial.tree l.tree;
}
