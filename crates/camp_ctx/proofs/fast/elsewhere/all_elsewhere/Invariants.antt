use Rattle.camp_ctx.proofs.Words.{drop, whole}
use Rattle.camp_ctx.specs.Inside.Apart.{ChangeNoCommonFile}
use Rattle.camp_ctx.proofs.fast.elsewhere.all_elsewhere.Given as goal

abbrev pub invariant-loop-at : goal.invariant-loop-at
invariant-loop-at l = ChangeNoCommonFile (drop l.at l.s) (whole l.y)
