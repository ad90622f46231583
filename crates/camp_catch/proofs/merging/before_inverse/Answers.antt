use Rattle.camp_catch.proofs.merging.before_inverse.Goals as goal

pub returns : goal.returns
returns c = rw c.in_ok-back.ensures at c.commute.ensures.exact
