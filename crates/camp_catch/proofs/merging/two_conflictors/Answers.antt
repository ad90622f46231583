use Rattle.camp_catch.proofs.MergeSteps.{two_from}
use Rattle.camp_catch.proofs.merging.two_conflictors.Goals as goal

pub returns-in_default : goal.returns-in_default
returns-in_default c =
    record { exact = λ pair w. (rw c.in_default.is at c.in_ok-s2.ensures.exact) (w.s2, w.r2) (record { merged = w.merged; left = w.left; merge = w.merge; effect = w.effect; own_effect = w.own_effect }) }

pub returns : goal.returns
returns c =
    record { exact = two_from c.args.j.now c.args.k.now _ _ _ _ _ _ _ (rw c.in-Some.is at c.in_ok-s2.ensures.exact) c.in_ok-in_conflict.ensures c.in_ok-moved.ensures c.in_ok-own.ensures c.in_ok-pair.ensures }
