use Rattle.camp_seq.proofs.Words.{CommutesBeforeAll}
use Rattle.camp_seq.proofs.ListSteps.{DoneFrom}
use Rattle.camp_seq.proofs.passes.commute_left.Given as goal

abbrev pub invariant-loop-at : goal.invariant-loop-at
invariant-loop-at l = DoneFrom (λ t u. CommutesBeforeAll t l.initial.p l.p u) l.initial.s l.s l.at
