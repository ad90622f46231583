use Rattle.camp_seq.proofs.Words.{◌∷◌, [], ◌++◌, ◌-◌, length, take, ap, refl, sym, ◌∙◌, subst, arith, take_at, take_rest, HasRoom, Norm}
use Rattle.camp_seq.proofs.OrderSteps.{rest_written}
use Rattle.camp_seq.proofs.OwnOrders.{none_in_order}
use Rattle.camp_seq.proofs.PlacingSteps.{placed_there}
use Rattle.camp_seq.proofs.fast.insertions.insert_last.Goals as goal

pub returns-in_default : goal.returns-in_default
returns-in_default c = none_in_order c.args.items.now c.in_default.ensures.cases

pub commute_left_in_order-at-requires : goal.commute_left_in_order-at-requires
commute_left_in_order-at-requires c =
    let n = length c.args.items.now - 1 in
    let (is, long) = c.in-Some.ensures.cases in
    record {
      room = subst HasRoom is c.requires.room;
      own = subst (λ l. Norm l l) (ap (take n) is ∙ take_at c.in-Some.others.now (c.in-Some.last.now ∷ []) n (omega arith)) c.requires.own;
    }

pub returns : goal.returns
returns c =
    let items = c.commute_left_in_order-at.new.s ++ c.commute_left_in_order-at.new.x ∷ [] in
    let at = c.commute_left_in_order-at.result in
    subst (Norm c.args.items.now) (sym (rest_written items c.rotate_right.new.self at)) (placed_there c.args.items.now c.in-Some.others.now c.commute_left_in_order-at.new.s items _ c.rotate_right.new.self c.in-Some.last.now c.commute_left_in_order-at.new.x at c.in-Some.ensures.cases.0 c.commute_left_in_order-at.auto.s c.commute_left_in_order-at.ensures refl (take_rest items at) c.rotate_right.ensures.after)
