use Rattle.camp_catch.proofs.merging.mirror.Goals as goal

pub returns-in-None : goal.returns-in-None
returns-in-None c = record { exact = λ pair w. (rw c.in-None.is at c.in_ok-plain_and_conflictor.ensures.exact) (pair.1, pair.0) w }
