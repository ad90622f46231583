use Rattle.camp_branch.proofs.Words.{drop, AppliesAll}
use Rattle.camp_branch.proofs.EffectSteps.{effects_of}
use Rattle.camp_branch.proofs.effects.tree_before.Given as goal

abbrev pub invariant-loop-at : goal.invariant-loop-at
invariant-loop-at l = AppliesAll (effects_of (drop l.at l.catches)) l.before l.tree
