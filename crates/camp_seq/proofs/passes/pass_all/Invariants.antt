use Rattle.camp_seq.proofs.Words.{PassesAll}
use Rattle.camp_seq.proofs.ListSteps.{DoneFrom}
use Rattle.camp_seq.proofs.passes.pass_all.Given as goal

abbrev pub invariant-loop-at : goal.invariant-loop-at
invariant-loop-at l = DoneFrom (λ t u. PassesAll t l.initial.s l.s u) l.initial.r l.r l.at
