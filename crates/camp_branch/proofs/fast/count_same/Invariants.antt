use Rattle.camp_branch.proofs.Words.{drop}
use Rattle.camp_branch.proofs.SamePrefixes.{AlikeSoFar}
use Rattle.camp_branch.proofs.fast.count_same.Given as goal

abbrev pub invariant-loop-catch : goal.invariant-loop-catch
invariant-loop-catch l = AlikeSoFar (drop l.known l.from) (drop l.known l.to) l.catch-iterator l.others l.same
