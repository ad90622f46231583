use Rattle.camp_seq.proofs.FirstOrders.{own_with_room}
use Rattle.camp_seq.proofs.orders.order.Goals as goal

pub returns : goal.returns
returns c = record {
  order = c.order_unordered.ensures;
  own = λ yes. own_with_room c.args.items.now c.order_unordered.new.items (c.has_small_reach.ensures.room yes) c.order_unordered.ensures;
}
