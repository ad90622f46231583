use Rattle.camp_seq.proofs.Words.{◌≡◌, ◌++◌, List, take, drop, ap, ◌∙◌, subst, arith, then_some, take_rest, take-append-drop, FindsPair, Named, CommutesBeforeAll, Passes}
use Rattle.camp_seq.proofs.OrderSteps.{rest_written}
use Rattle.camp_seq.proofs.PassingSteps.{passed_back, never_first}
use Rattle.camp_seq.proofs.passes.commute_before_all.Goals as goal

pub returns-then-at-gt0 : goal.returns-then-at-gt0
returns-then-at-gt0 c =
    let s0 : List Named = c.args.s.now in
    let p0 : Named = c.args.p.now in
    let w = c.commute_left-at.ensures in
    let at = c.commute_left-at.result in
    let s : List Named = c.commute_left-at.new.s in
    let done = then_some c.pass.result (c.pass.new.s, c.pass.new.p) in
    let tried = subst (λ x. FindsPair (Passes c.commute_left-at.new.p x) done) (take_rest s at) c.pass.ensures.exact in
    let back = passed_back (drop at s0) p0 c.commute_left-at.new.p (drop at s) c.pass.result c.pass.new.s c.pass.new.p w.came tried in
    let list = rest_written s c.pass.new.s at ∙ ap (λ x. x ++ c.pass.new.s) w.waiting ∙ ap (λ x. take at s0 ++ x) back.0 ∙ take-append-drop at s0 in
    record {
      exact = (λ any m. never_first s0 at p0 (omega arith) w.bound w.held any.1 any.0 m, λ j. (list j, back.1 j));
    }

pub returns : goal.returns
returns c =
    let e : c.commute_left-at.result ≡ 0 = omega arith in
    record { exact = subst (λ n. CommutesBeforeAll (drop n c.args.s.now) c.args.p.now c.commute_left-at.new.p (drop n c.commute_left-at.new.s)) e c.commute_left-at.ensures.came }
