use Rattle.camp_git.proofs.Words.{drop}
use Rattle.camp_branch.proofs.EffectSteps.{FitsOn}
use Rattle.camp_git.specs.Inside.Steps.{StaysBeside}
use Rattle.camp_git.proofs.steps.step_over.Given as goal

abbrev pub invariant-loop-catch : goal.invariant-loop-catch
invariant-loop-catch l = record {
  fits : FitsOn l.catches l.tree (drop l.catch-index l.catches) l.after;
  stays : StaysBeside l.paths l.tree l.after;
}
