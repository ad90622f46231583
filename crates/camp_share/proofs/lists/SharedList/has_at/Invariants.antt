use Rattle.camp_share.proofs.Words.{◌≡◌, ◌-◌, length, take, drop, pointwise}
use Rattle.camp_share.proofs.lists.SharedList.has_at.Given as goal

abbrev pub invariant-loop-item : goal.invariant-loop-item
invariant-loop-item g l =
    pointwise g.T.PartialEq.eq (take (length l.items) (drop l.from l.self)) l.items ≡ pointwise g.T.PartialEq.eq (take (length l.items - l.item-index) l.rest) (drop l.item-index l.items)
