use Rattle.camp_ctx.proofs.Words.{whole}
use Rattle.camp_ctx.proofs.AnyOrder.{of_own_orders, of_room}
use Rattle.camp_ctx.proofs.fast.conflicts.can_merge_unordered.Goals as goal

pub returns-then-are_ordered : goal.returns-then-are_ordered
returns-then-are_ordered c =
    let own = c.if-are_ordered.true in
    record {
      labels = λ yes. c.have_no_common_label.ensures c.if-not-have_no_common_label.false;
      orders = λ yes. of_own_orders (whole c.args.x.now) (whole c.args.y.now) (c.are_ordered.ensures.first own) (c.are_ordered.ensures.second own);
    }

pub returns : goal.returns
returns c = record {
  labels = λ yes. c.have_no_common_label.ensures c.if-not-have_no_common_label.false;
  orders = λ yes.
      of_room (whole c.args.x.now) (whole c.args.y.now)
      (rw (c.items.ensures.exact, c.context.ensures.exact, c.patch.ensures.exact, c.items-2.ensures.exact, c.context-2.ensures.exact, c.patch-2.ensures.exact) at (c.has_room_to_merge.ensures.room yes));
}
