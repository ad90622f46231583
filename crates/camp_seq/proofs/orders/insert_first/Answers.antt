use Rattle.camp_seq.proofs.Words.{◌∷◌, sym, ◌∙◌, subst, Norm}
use Rattle.camp_seq.specs.Inside.FirstInOrder.{CommutedRightInOrder}
use Rattle.camp_seq.proofs.FirstOrders.{own_behind}
use Rattle.camp_seq.proofs.orders.insert_first.Goals as goal

pub stays_first-stays-requires : goal.stays_first-stays-requires
stays_first-stays-requires c =
    subst (λ l. Norm l l) (sym (c.split_at_mut-rest.ensures.back ∙ c.commute_right_in_order-at.ensures.place.waiting)) (own_behind c.args.s.now c.commute_right_in_order-at.result c.requires)

pub returns : goal.returns
returns c =
    let a = c.commute_right_in_order-at.new.a in
    let w = c.commute_right_in_order-at.ensures.place in
    let parts = c.split_at_mut-rest.ensures in
    record {
      place = subst (λ l. CommutedRightInOrder c.args.s.now c.args.a.now c.commute_right_in_order-at.result l a) parts.value w;
      stays = λ yes. subst (λ l. Norm (a ∷ l) (a ∷ l)) (parts.back ∙ w.waiting) (c.stays_first-stays.ensures yes);
    }
