use Rattle.camp_catch.proofs.Words.{[], ap, append-nil, arith, refl, drop_all, take_all, take_more_set, at_next, drop_next}
use Rattle.camp_catch.proofs.MergeListSteps.{behind_one_more, sticks_here}
use Rattle.camp_catch.proofs.merging_lists.merge_with_all.Goals as goal

pub returns-then-not-branch : goal.returns-then-not-branch
returns-then-not-branch c =
    let next = at_next c.args.q.now c.loop-j.q c.loop-j.j-index c.j-item.result (omega arith) (omega arith) c.loop-j.invariant.waiting in
    let stopped = rw c.if-not-branch.true at c.in_ok-merge_with.ensures.exact in
    record { exact = sticks_here _ _ c.no_merge.result (rw next at c.loop-j.invariant.behind) (λ k' j'. stopped.0 (j', k')) c.no_merge.ensures (ap (λ x. x.0) stopped.1) (ap (λ x. x.1) stopped.1) }

pub loop-j-preserved : goal.loop-j-preserved
loop-j-preserved c =
    let next = at_next c.args.q.now c.loop-j.q c.loop-j.j-index c.j-item.result (omega arith) (omega arith) c.loop-j.invariant.waiting in
    record {
      behind = rw (take_more_set c.loop-j.q c.loop-j.j-index c.merge_with.new.self (omega arith)) (behind_one_more c.merge_with.new.self (rw next at c.loop-j.invariant.behind) (rw c.if-not-branch.false at c.in_ok-merge_with.ensures.exact));
      waiting = drop_next c.args.q.now c.loop-j.q c.loop-j.j-index c.j-item.result c.merge_with.new.self (omega arith) (omega arith) c.loop-j.invariant.waiting;
    }

pub returns : goal.returns
returns c =
    record { exact = rw (append-nil, take_all c.loop-j.j-index c.loop-j.q (omega arith)) at ((rw (drop_all c.loop-j.j-index c.args.q.now (omega arith)) at c.loop-j.invariant.behind).goes c.in_ok-settled.settled [] (c.in_ok-settled.ensures, refl)) }
