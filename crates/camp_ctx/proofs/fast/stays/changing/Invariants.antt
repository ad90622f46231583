use Rattle.camp_ctx.proofs.Words.{drop, AddsAll}
use Rattle.camp_ctx.proofs.fast.stays.changing.Given as goal

abbrev pub invariant-loop-at : goal.invariant-loop-at
invariant-loop-at l = AddsAll (drop l.at l.r) l.x l.x
