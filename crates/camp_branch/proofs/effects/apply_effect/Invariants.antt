use Rattle.camp_branch.proofs.Words.{drop}
use Rattle.camp_branch.proofs.EffectSteps.{RunsOn}
use Rattle.camp_branch.proofs.effects.apply_effect.Given as goal

abbrev pub invariant-loop-p : goal.invariant-loop-p
invariant-loop-p l = RunsOn l.effect l.initial.tree (drop l.p-index l.effect) l.tree
