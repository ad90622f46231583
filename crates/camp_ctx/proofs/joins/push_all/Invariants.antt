use Rattle.camp_ctx.proofs.Words.{◌≡◌, ◌++◌, take}
use Rattle.camp_ctx.proofs.joins.push_all.Given as goal

abbrev pub invariant-loop-p : goal.invariant-loop-p
invariant-loop-p l = l.list ≡ l.initial.list ++ take l.p-index l.items
