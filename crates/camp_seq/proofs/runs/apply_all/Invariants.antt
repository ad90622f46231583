use Rattle.camp_seq.proofs.Words.{take, AppliesAll}
use Rattle.camp_seq.proofs.runs.apply_all.Given as goal

abbrev pub invariant-loop-p : goal.invariant-loop-p
invariant-loop-p l = AppliesAll (take l.p-index l.p-items) l.initial.changed l.changed
