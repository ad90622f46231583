use Rattle.camp_branch.proofs.Words.{drop}
use Rattle.camp_branch.proofs.EffectSteps.{FitsOn}
use Rattle.camp_branch.proofs.effects.tree_after.Given as goal

abbrev pub invariant-loop-catch : goal.invariant-loop-catch
invariant-loop-catch l = FitsOn l.catches l.tree (drop l.catch-index l.catches) l.after
