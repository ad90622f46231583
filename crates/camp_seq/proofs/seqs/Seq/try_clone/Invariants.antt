use Rattle.camp_seq.proofs.Words.{◌≡◌, take}
use Rattle.camp_seq.proofs.seqs.Seq.try_clone.Given as goal

abbrev pub invariant-loop-p : goal.invariant-loop-p
invariant-loop-p l = l.items.items ≡ take l.p-index l.p-items
