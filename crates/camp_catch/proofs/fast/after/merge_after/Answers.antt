use Rattle.camp_catch.proofs.fast.after.merge_after.Goals as goal

pub returns-in-None : goal.returns-in-None
returns-in-None c = record { exact = rw (c.in-None.is, c.deref-2.ensures) at c.in_ok-catch_after.ensures.exact }
