use Rattle.camp_seq.proofs.OwnOrders.{chain_is_ordered, chain_with_last, one_alone}
use Rattle.camp_seq.proofs.fast.looks.are_own_orders_of_chain.Goals as goal

pub returns-in_default : goal.returns-in_default
returns-in_default c = record {
  list = λ yes. chain_is_ordered c.args.items.now c.requires;
  with_last = λ yes. one_alone c.args.items.now c.args.last.now c.in_default.ensures.cases;
}

pub returns : goal.returns
returns c =
    let no = c.if-can_commute.false in
    record {
      list = λ yes. chain_is_ordered c.args.items.now c.requires;
      with_last = λ yes. chain_with_last c.args.items.now _ c.in-Some.previous.now c.args.last.now c.in-Some.ensures.cases.0 c.requires (λ w. let is = c.can_commute.ensures.exact.1 w in cc);
    }
