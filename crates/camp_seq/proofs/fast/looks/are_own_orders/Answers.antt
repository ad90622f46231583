use Rattle.camp_seq.proofs.Words.{sym, ◌∙◌, label_of}
use Rattle.camp_seq.proofs.OwnOrders.{none_in_order, one_alone, one_more_told}
use Rattle.camp_seq.proofs.fast.looks.are_own_orders.Goals as goal

pub returns-in_default : goal.returns-in_default
returns-in_default c = record {
  list = λ yes. none_in_order c.args.items.now c.in_default.ensures.cases;
  with_last = λ yes. one_alone c.args.items.now c.args.last.now c.in_default.ensures.cases;
}

pub returns-in-Some-greatest_in_order : goal.returns-in-Some-greatest_in_order
returns-in-Some-greatest_in_order c =
    let in_order = rw c.in-Some-greatest_in_order.is at c.greatest_in_order.ensures in
    record {
      list = λ yes. in_order.ordered;
      with_last = λ yes. one_more_told (λ p. label_of p.now) c.args.items.now _ c.in-Some.previous.now c.args.last.now (label_of c.in-Some-greatest_in_order.greatest.now) c.greatest_with.result c.in-Some.ensures.cases.0 in_order c.greatest_with.ensures (sym c.is_some.ensures ∙ yes);
    }
