use Rattle.std.proofs.Common.{◌++◌}
use Rattle.camp_catch.proofs.Words.{[], arith, refl, drop_all}
use Rattle.camp_catch.proofs.MoveSteps.{stands_at}
use Rattle.camp_catch.proofs.MergeListSteps.{behind_nothing, behind_one_more, sticks_here}
use Rattle.camp_catch.proofs.fast.after.merge_after_all.Goals as goal

pub loop-j-init : goal.loop-j-init
loop-j-init c = ([], rw (c.new-after.ensures, c.in_ok-share.ensures) (behind_nothing c.args.q.now c.args.k.now))

pub returns-then-not-branch : goal.returns-then-not-branch
returns-then-not-branch c =
    let next = stands_at c.args.q.now c.loop-j.j-index c.j-item.result c.j-item.result (omega arith) c.j-item.is in
    let stopped = rw c.if-not-branch.true at c.in_ok-merge_self_with.ensures.exact in
    record { exact = sticks_here _ _ c.no_merge.result (rw next at c.loop-j.invariant.1) (λ k' j' m. stopped.0 k' (j', m)) c.no_merge.ensures refl stopped.1 }

pub loop-j-preserved : goal.loop-j-preserved
loop-j-preserved c =
    let next = stands_at c.args.q.now c.loop-j.j-index c.j-item.result c.j-item.result (omega arith) c.j-item.is in
    let (beside, m) = rw c.if-not-branch.false at c.in_ok-merge_self_with.ensures.exact in
    (_, behind_one_more beside (rw next at c.loop-j.invariant.1) m)

pub returns : goal.returns
returns c =
    let end = drop_all c.loop-j.j-index c.args.q.now (omega arith) in
    record { exact = (c.loop-j.invariant.0 ++ [], c.loop-j.invariant.1.goes c.in_ok-settled.settled [] (rw end (c.in_ok-settled.ensures, refl))) }
