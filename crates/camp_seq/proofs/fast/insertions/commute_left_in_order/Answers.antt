use Rattle.camp_seq.proofs.Words.{sym, subst, take_rest, Norm}
use Rattle.camp_seq.proofs.OrderSteps.{rest_written}
use Rattle.camp_seq.proofs.PlacingSteps.{own_there, comes_in}
use Rattle.camp_seq.proofs.fast.insertions.commute_left_in_order.Goals as goal

pub commute_right_in_order-at-requires : goal.commute_right_in_order-at-requires
commute_right_in_order-at-requires c =
    subst (λ l. Norm l l) (sym (take_rest c.commute_left-from.new.s c.commute_left-from.result)) (own_there c.args.s.now c.commute_left-from.new.s c.args.x.now c.commute_left-from.new.p c.commute_left-from.result c.requires.room c.requires.own c.commute_left-from.ensures)

pub returns : goal.returns
returns c =
    let s = c.commute_left-from.new.s in
    let from = c.commute_left-from.result in
    comes_in c.args.s.now s c.args.x.now c.commute_left-from.new.p from c.requires.room c.requires.own c.commute_left-from.ensures _ c.commute_right_in_order-at.new.s _ c.commute_right_in_order-at.result c.commute_right_in_order-at.new.a (take_rest s from) c.commute_right_in_order-at.ensures.place c.commute_right_in_order-at.ensures.stays (rest_written s c.commute_right_in_order-at.new.s from)
