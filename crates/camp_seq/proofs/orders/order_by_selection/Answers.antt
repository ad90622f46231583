use Rattle.camp_seq.proofs.Words.{List, [], take, ◌∙◌, subst, arith, append-nil, drop_all, take_all, take_rest, Named, Norm}
use Rattle.camp_seq.proofs.OrderSteps.{order_more, rest_written}
use Rattle.camp_seq.proofs.orders.order_by_selection.Goals as goal

pub loop-at-preserved : goal.loop-at-preserved
loop-at-preserved c =
    let s : List Named = c.loop-at.items in
    let at = c.loop-at.at in
    order_more c.args.items.now s _ c.move_least_to_front.new.items _ at (omega arith) (take_rest s at) c.move_least_to_front.ensures (rest_written s c.move_least_to_front.new.items at) c.loop-at.invariant

pub returns : goal.returns
returns c =
    let s : List Named = c.loop-at.items in
    let at = c.loop-at.at in
    subst (λ x. Norm c.args.items.now x) (append-nil (take at s) ∙ take_all at s (omega arith)) (c.loop-at.invariant [] (drop_all at s (omega arith)))
