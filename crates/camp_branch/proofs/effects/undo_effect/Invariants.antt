use Rattle.camp_branch.proofs.Words.{drop, AppliesAll}
use Rattle.camp_branch.proofs.effects.undo_effect.Given as goal

abbrev pub invariant-loop-at : goal.invariant-loop-at
invariant-loop-at l = AppliesAll (drop l.at l.effect) l.tree l.initial.tree
