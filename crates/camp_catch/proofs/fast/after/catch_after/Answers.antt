use Rattle.camp_catch.proofs.fast.after.catch_after.Goals as goal

pub returns-in-None : goal.returns-in-None
returns-in-None c = record { exact = λ k' (j', m). (rw c.in-None.is at c.in_ok-merge.ensures.exact) (k', j') m }
