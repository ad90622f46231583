use Rattle.camp_seq.proofs.Words.{drop, Chain}
use Rattle.camp_seq.proofs.chains.is_chain.Given as goal

abbrev pub invariant-loop-at : goal.invariant-loop-at
invariant-loop-at l = Chain (drop l.at l.items)
