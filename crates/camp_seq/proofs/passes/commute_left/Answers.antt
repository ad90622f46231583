use Rattle.camp_seq.proofs.Words.{◌≡◌, ◌+◌, ◌-◌, List, drop, set, refl, sym, ap, subst, ◌∙◌, arith, set-get_or, Named, CommutesBeforeAll, CommutedLeftTo}
use Rattle.camp_seq.proofs.PassingSteps.{comes_up_to, all_done, one_more_done}
use Rattle.camp_seq.proofs.passes.commute_left.Goals as goal

pub returns-then-not-commute_in_place : goal.returns-then-not-commute_in_place
returns-then-not-commute_in_place c =
    let s0 : List Named = c.args.s.now in
    let s : List Named = c.loop-at.s in
    let i = c.loop-at.at - 1 in
    let stopped = c.if-not-commute_in_place.ensures.exact in
    let kept : set s i c.commute_in_place.new.p ≡ s = ap (λ y. set s i y.0) stopped.1 ∙ set-get_or s i c.index-s-at.result in
    let stands = comes_up_to s0 s c.args.p.now c.loop-at.p c.loop-at.at i c.index-s-at.result (omega arith) (omega arith) (omega arith) c.loop-at.invariant (λ a b. stopped.0 (b, a)) in
    subst (λ t. CommutedLeftTo s0 c.args.p.now (i + 1) t c.commute_in_place.new.q) (sym kept) (subst (λ y. CommutedLeftTo s0 c.args.p.now (i + 1) s y) (sym (ap (λ y. y.1) stopped.1)) stands)

pub loop-at-preserved : goal.loop-at-preserved
loop-at-preserved c =
    let s : List Named = c.loop-at.s in
    let i = c.loop-at.at - 1 in
    one_more_done (λ t u. CommutesBeforeAll t c.args.p.now c.loop-at.p u) (λ t u. CommutesBeforeAll t c.args.p.now c.commute_in_place.new.q u) c.args.s.now s c.loop-at.at i c.index-s-at.result c.commute_in_place.new.p (omega arith) (omega arith) (omega arith) c.loop-at.invariant (λ passed. (c.loop-at.p, c.commute_in_place.new.p, drop (i + 1) s, passed, c.if-not-commute_in_place.ensures.exact, refl))

pub returns : goal.returns
returns c =
    let came = all_done (λ t u. CommutesBeforeAll t c.args.p.now c.loop-at.p u) c.args.s.now c.loop-at.s c.loop-at.at (omega arith) c.loop-at.invariant in
    record { bound = omega arith; long = omega arith; waiting = refl; came = came; held = tt }
