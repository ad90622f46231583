use Rattle.camp_catch.proofs.Words.{List, drop, Catch}
use Rattle.camp_catch.proofs.MergeListSteps.{IsBehind}
use Rattle.camp_catch.proofs.fast.after.merge_after_all.Given as goal

abbrev pub invariant-loop-j : goal.invariant-loop-j
invariant-loop-j l = (done : List Catch) × IsBehind l.q l.k done l.after (drop l.j-index l.q)
