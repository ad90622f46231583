use Rattle.camp_catch.proofs.MergeSteps.{apart_behind, joined_behind}
use Rattle.camp_catch.proofs.fast.after.conflictor_after.Goals as goal

pub returns-in_default : goal.returns-in_default
returns-in_default c =
    record { exact = λ k' (j', w). (rw c.in_default.is at c.in_ok-s2.ensures.exact) (w.s2, w.r2) (record { merged = w.merged; left = w.left; merge = w.merge; effect = w.effect; own_effect = w.own_effect }) }

pub returns-then-not-in_conflict : goal.returns-then-not-in_conflict
returns-then-not-in_conflict c =
    let no = c.if-not-in_conflict.true in
    record { exact = apart_behind c.args.j.now c.args.k.now _ _ _ _ (rw c.in-Some.is at c.in_ok-s2.ensures.exact) c.in_ok-in_conflict.ensures c.in_ok-moved.ensures (λ yes. cc) }

pub returns : goal.returns
returns c =
    record { exact = joined_behind c.args.j.now c.args.k.now _ _ _ _ (rw c.in-Some.is at c.in_ok-s2.ensures.exact) c.in_ok-in_conflict.ensures c.in_ok-moved.ensures c.if-not-in_conflict.false _ c.in_ok-joined.ensures.1 _ c.in_ok-joined.ensures.2 }
