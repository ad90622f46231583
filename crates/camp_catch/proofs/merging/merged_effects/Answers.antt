use Rattle.camp_catch.proofs.merging.merged_effects.Goals as goal

pub returns-in_default : goal.returns-in_default
returns-in_default c =
    record { exact = λ pair w. (rw c.in_default.is at c.in_ok-merged.ensures.exact) (w.merged, w.left) w.merge }
