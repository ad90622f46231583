use Rattle.camp_share.proofs.Words.{◌≡◌, ◌++◌, take, slice_range}
use Rattle.camp_share.proofs.lists.SharedList.range_to_vec.Given as goal

abbrev pub invariant-loop-item : goal.invariant-loop-item
invariant-loop-item g l = l.items.items ++ take l.item-iterator.n l.item-iterator.iter ≡ slice_range l.self l.from l.to
