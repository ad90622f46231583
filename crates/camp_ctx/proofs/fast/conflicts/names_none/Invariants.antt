use Rattle.camp_ctx.proofs.Words.{drop, whole}
use Rattle.camp_ctx.specs.Inside.Apart.{LacksLabels}
use Rattle.camp_ctx.proofs.fast.conflicts.names_none.Given as goal

abbrev pub invariant-loop-at : goal.invariant-loop-at
invariant-loop-at l = LacksLabels (drop l.at l.s) (whole l.y)
