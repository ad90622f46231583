use Rattle.camp_ctx.proofs.Words.{drop, PassesByAll}
use Rattle.camp_ctx.proofs.contexted.Contexted.past.Given as goal

abbrev pub invariant-loop-at : goal.invariant-loop-at
invariant-loop-at l = PassesByAll (drop l.at l.items) l.x l.passed
