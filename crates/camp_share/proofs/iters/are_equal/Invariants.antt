use Rattle.camp_share.proofs.Words.{◌≡◌, length, pointwise}
use Rattle.camp_share.proofs.iters.are_equal.Given as goal

abbrev pub invariant-loop-item : goal.invariant-loop-item
invariant-loop-item g l = (length l.mine ≡ length l.others) × (pointwise g.T.PartialEq.eq l.mine l.others ≡ pointwise g.T.PartialEq.eq l.initial.mine l.initial.others)

abbrev pub decreases-loop-item : goal.decreases-loop-item
decreases-loop-item g l = length l.mine
