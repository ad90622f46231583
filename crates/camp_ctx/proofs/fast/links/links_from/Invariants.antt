use Rattle.camp_ctx.proofs.Words.{drop}
use Rattle.camp_ctx.proofs.LinkSteps.{Linked}
use Rattle.camp_ctx.proofs.fast.links.links_from.Given as goal

abbrev pub invariant-loop-at : goal.invariant-loop-at
invariant-loop-at l = Linked (drop l.at l.r) l.s l.patch
