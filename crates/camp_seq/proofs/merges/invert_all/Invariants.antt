use Rattle.camp_seq.proofs.Words.{◌≡◌, map, take, inverse_of}
use Rattle.camp_seq.proofs.merges.invert_all.Given as goal

abbrev pub invariant-loop-p : goal.invariant-loop-p
invariant-loop-p l = l.items.items ≡ map inverse_of (take l.p-index l.p-items)
