use Rattle.camp_ctx.proofs.Words.{drop}
use Rattle.camp_ctx.specs.Inside.Apart.{ChangesOtherFiles}
use Rattle.camp_ctx.proofs.fast.elsewhere.changes_other_files.Given as goal

abbrev pub invariant-loop-at : goal.invariant-loop-at
invariant-loop-at l = ChangesOtherFiles (drop l.at l.s) l.p
