use Rattle.camp_catch.proofs.values.inverse_before.Goals as goal

pub returns : goal.returns
returns c = rw (c.from_ref.ensures.value, c.in_ok-back.ensures) at c.join.ensures.exact
