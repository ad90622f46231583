use Rattle.camp_seq.proofs.Words.{◌≡◌, ◌∷◌, ◌++◌, IsTrue, drop, take, arith, ap, sym, ◌∙◌, subst, take_at, HasRoom, Norm}
use Rattle.camp_seq.specs.Inside.FirstInOrder.{CommutedRightInOrder}
use Rattle.camp_seq.proofs.FirstOrders.{own_with_room, put_there}
use Rattle.camp_seq.proofs.orders.put_before.Goals as goal

pub returns : goal.returns
returns c =
    let at = c.insert_first-at.result.0 in
    let s = c.insert_first-at.new.s in
    let a = c.insert_first-at.new.a in
    let t = c.order_from.new.items in
    let here = c.deref_mut.ensures.value ∙ c.s.view_is in
    let placed = subst (λ l. CommutedRightInOrder l c.args.a at s a) here c.insert_first-at.ensures.place in
    let stays : IsTrue c.insert_first-at.result.1 → Norm (a ∷ drop at c.args.s.now) (a ∷ drop at c.args.s.now) =
    λ yes. subst (λ l. Norm (a ∷ drop at l) (a ∷ drop at l)) here (c.insert_first-at.ensures.stays yes) in
    let items : c.deref_mut-2.result.now ≡ take at s ++ a ∷ drop at s =
    c.deref_mut-2.ensures.value ∙ c.in_ok-insert.ensures.items ∙ ap (λ l. take at l ++ a ∷ drop at l) (take_at s _ c.s.inside.items.len (omega (arith, c.insert_first-at.auto.s, c.deref_mut.ensures.len))) in
    let all = take_at t _ c.insert.new.self.len (omega (arith, c.order_from.auto.items, c.deref_mut-2.ensures.len)) in
    let order = subst (Norm (c.args.a ∷ c.args.s.now)) (sym all) (put_there c.args.s.now s c.args.a a at c.insert_first-at.result.1 c.deref_mut-2.result.now t placed stays items c.order_from.ensures) in
    record {
      order = order;
      own = λ yes. own_with_room (c.args.a ∷ c.args.s.now) _ (subst HasRoom c.deref.ensures.value (c.has_small_reach.ensures.room yes)) order;
    }
