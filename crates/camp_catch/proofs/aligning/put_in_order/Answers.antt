use Rattle.camp_seq.proofs.OrderSteps.{rest_written}
use Rattle.camp_catch.proofs.Words.{arith, inl, refl, ◌∷◌, drop_all, take-append-drop, take_rest}
use Rattle.camp_catch.proofs.MoveSteps.{stands_at, aligned_more}
use Rattle.camp_catch.proofs.aligning.put_in_order.Goals as goal

pub returns-then-not-branch : goal.returns-then-not-branch
returns-then-not-branch c =
    let next = stands_at c.args.order.now c.loop-at.at c.index-order-at.result c.index-order-at.result (omega arith) c.index-order-at.is in
    record { exact = (rw next at c.loop-at.invariant.up).sticks _ (inl ((λ k others w. (rw (c.if-not-branch.true, take_rest c.loop-at.list c.loop-at.at) at c.in_ok-move_to_front.ensures.exact) (k ∷ others) (k, others, w, refl)), refl)) }

pub loop-at-preserved : goal.loop-at-preserved
loop-at-preserved c =
    let next = stands_at c.args.order.now c.loop-at.at c.index-order-at.result c.index-order-at.result (omega arith) c.index-order-at.is in
    let more = aligned_more c.loop-at.list c.move_to_front.new.list _ c.loop-at.at c.loop-at.invariant.within (rw (c.if-not-branch.false, take_rest c.loop-at.list c.loop-at.at) at c.in_ok-move_to_front.ensures.exact) (rest_written c.loop-at.list c.move_to_front.new.list c.loop-at.at) (rw next at c.loop-at.invariant.up) in
    record { within = more.0; up = more.1 }

pub returns : goal.returns
returns c =
    record { exact = rw take-append-drop at ((rw (drop_all c.loop-at.at c.args.order.now (omega arith)) at c.loop-at.invariant.up).goes _ refl) }
