use Rattle.camp_seq.proofs.Words.{◌≡◌, take}
use Rattle.camp_seq.proofs.seqs.Seq.is_same.Given as goal

abbrev pub invariant-loop-at : goal.invariant-loop-at
invariant-loop-at l = take l.at l.self ≡ take l.at l.other
