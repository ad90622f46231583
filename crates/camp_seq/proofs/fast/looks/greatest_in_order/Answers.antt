use Rattle.camp_seq.proofs.Words.{arith, label_of, subst, take_all}
use Rattle.camp_seq.specs.Inside.NextInOrder.{IsInOrder}
use Rattle.camp_seq.proofs.OwnOrders.{first_in_order, next_in_order}
use Rattle.camp_seq.proofs.fast.looks.greatest_in_order.Goals as goal

pub loop-at-init : goal.loop-at-init
loop-at-init c = first_in_order c.args.items.now c.index-items-0.result c.requires c.index-items-0.is

pub loop-at-preserved : goal.loop-at-preserved
loop-at-preserved c =
    next_in_order c.args.items.now c.loop-at.at c.index-items-at.result c.index-items-at-in-loop-at.result (label_of c.loop-at.greatest.now) _ (omega arith) (omega arith) c.index-items-at.is c.index-items-at-in-loop-at.is c.loop-at.invariant c.in_ok-greatest.ensures

pub returns : goal.returns
returns c = subst (λ l. IsInOrder l (label_of c.loop-at.greatest.now)) (take_all c.loop-at.at c.args.items.now (omega arith)) c.loop-at.invariant
