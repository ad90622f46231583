use Rattle.camp_catch.proofs.Words.{List, ap, arith, drop, length, refl, take, ◌+◌, ◌-◌, ◌∙◌, ◌≡◌, drop-set, drop_all, get_or-set_same, at_last, take_last, whole, catch_key, Catch}
use Rattle.camp_catch.proofs.MoveSteps.{stops_behind}
use Rattle.camp_catch.proofs.moves.commute_before_all.Goals as goal

pub loop-at-init : goal.loop-at-init
loop-at-init c =
    let s : List Catch = c.args.list.now in
    record { came = rw (drop_all (length s) s (omega arith)) (refl, refl); waiting = refl }

pub returns-then-not-branch : goal.returns-then-not-branch
returns-then-not-branch c =
    let s0 : List Catch = c.args.list.now in
    let i = c.loop-at.at - 1 in
    let e : c.loop-at.at ≡ i + 1 = omega arith in
    let next = at_last s0 c.loop-at.list i c.index-list-at.result (omega arith) (rw e at c.loop-at.invariant.waiting) in
    let stopped = rw c.if-not-branch.true at c.in_ok-commute_with.ensures.exact in
    let is = c.key.ensures ∙ ap catch_key (get_or-set_same c.loop-at.list i _ _ (omega arith) ∙ ap (λ x. x.0) stopped.1) in
    let stops = stops_behind (take i s0) _ _ _ _ _ (rw e at c.loop-at.invariant.came) (λ k' j'. stopped.0 (j', k')) in
    record { exact = rw (is, whole s0 i _ next) stops }

pub loop-at-preserved : goal.loop-at-preserved
loop-at-preserved c =
    let s0 : List Catch = c.args.list.now in
    let s : List Catch = c.loop-at.list in
    let i = c.loop-at.at - 1 in
    let e : c.loop-at.at ≡ i + 1 = omega arith in
    let waiting = rw e at c.loop-at.invariant.waiting in
    record {
      came = rw (at_last s0 s i c.index-list-at.result (omega arith) waiting, drop-set s i c.commute_with.new.self (omega arith)) (_, _, drop (i + 1) s, rw e at c.loop-at.invariant.came, rw c.if-not-branch.false at c.in_ok-commute_with.ensures.exact, refl);
      waiting = take_last s0 s i c.commute_with.new.self waiting;
    }

pub returns : goal.returns
returns c =
    let e : c.loop-at.at ≡ 0 = omega arith in
    record { exact = rw e at c.loop-at.invariant.came }
