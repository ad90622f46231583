use Rattle.std.proofs.Common.{drop}
use Rattle.camp_importer.proofs.PullLemmas.{IsPulledSoFar}
use Rattle.camp_importer.proofs.pulling.pull_each.Given as goal

abbrev pub invariant-loop-other : goal.invariant-loop-other
invariant-loop-other l = IsPulledSoFar l.pulled l.others (drop l.other-index l.others) l.branch l.initial.book l.book
