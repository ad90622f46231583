use Rattle.camp_seq.proofs.Words.{refl, ◌∙◌, subst, arith, length-set}
use Rattle.camp_seq.specs.Inside.InPlace.{CommutedRightTo}
use Rattle.camp_seq.proofs.PassingSteps.{drop_next, goes_past_more, goes_no_further}
use Rattle.camp_seq.proofs.passes.commute_right.Goals as goal

pub loop-at-init : goal.loop-at-init
loop-at-init c = record { long = refl; waiting = refl; passed = (refl, refl) }

pub loop-at-preserved : goal.loop-at-preserved
loop-at-preserved c =
    let w = c.loop-at.invariant in
    let d = c.index-s-at.result in
    let q = c.commute_in_place.new.q in
    record {
      long = length-set c.loop-at.s c.loop-at.at q ∙ w.long;
      waiting = drop_next c.args.s.now c.loop-at.s c.loop-at.at d q (omega arith) w.long w.waiting;
      passed = goes_past_more c.args.s.now c.loop-at.s c.args.p.now c.loop-at.p c.loop-at.at d (omega arith) w.long w.waiting w.passed q c.commute_in_place.new.p c.if-not-commute_in_place.ensures.exact;
    }

pub returns-then-not-commute_in_place : goal.returns-then-not-commute_in_place
returns-then-not-commute_in_place c =
    let w = c.loop-at.invariant in
    let stuck = c.if-not-commute_in_place.ensures.exact in
    goes_no_further c.args.s.now c.loop-at.s c.args.p.now c.loop-at.p c.loop-at.at c.index-s-at.result (omega arith) w.long w.waiting w.passed c.commute_in_place.new.p c.commute_in_place.new.q (λ x y. stuck.0 (y, x)) stuck.1

pub returns : goal.returns
returns c =
    let w = c.loop-at.invariant in
    subst (λ n. CommutedRightTo c.args.s.now c.args.p.now n c.loop-at.s c.loop-at.p) (omega arith) (record { bound = omega arith; long = w.long; waiting = w.waiting; passed = w.passed; stops = λ less. absurd (omega (arith, less)) })
