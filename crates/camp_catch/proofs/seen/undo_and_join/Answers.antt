use Rattle.camp_catch.proofs.seen.undo_and_join.Goals as goal

pub returns : goal.returns
returns c =
    let is = rw c.items.ensures.exact at c.in_ok-whole.ensures in
    record { s' = c.ordered.result; effect = rw is at c.ordered.ensures.exact; is = λ t. record { effect = c.ordered.result; conflicts = c.in_ok-conflicts.ensures.exact t; identity = c.in_ok-identity.ensures.exact t } }
