use Rattle.camp_seq.proofs.Words.{take, LacksLabel}
use Rattle.camp_seq.proofs.fronts.index_of.Given as goal

abbrev pub invariant-loop-at : goal.invariant-loop-at
invariant-loop-at l = LacksLabel l.label (take l.at l.items)
