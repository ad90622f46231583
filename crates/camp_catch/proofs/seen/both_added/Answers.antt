use Rattle.camp_catch.proofs.seen.both_added.Goals as goal

pub returns : goal.returns
returns c = rw c.in_ok-back.ensures.exact at c.others_before.ensures
