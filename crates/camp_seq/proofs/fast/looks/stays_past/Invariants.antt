use Rattle.camp_seq.proofs.Words.{drop, Passes}
use Rattle.camp_seq.proofs.fast.looks.stays_past.Given as goal

abbrev pub invariant-loop-at : goal.invariant-loop-at
invariant-loop-at l = Passes l.p (drop l.at l.s) (drop l.at l.s) l.p
