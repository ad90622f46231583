use Rattle.camp_seq.proofs.Words.{◌≡◌, ◌++◌, drop, take, ap, ◌∙◌, arith, take-append-drop}
use Rattle.camp_seq.proofs.PassingSteps.{gone_back, passed_all}
use Rattle.camp_seq.proofs.passes.pass_or_stay.Goals as goal

pub returns-then-at-s : goal.returns-then-at-s
returns-then-at-s c =
    let s0 = c.args.s.now in
    let s = c.commute_right-at.new.s in
    let at = c.commute_right-at.result in
    let w = c.commute_right-at.ensures in
    let back = gone_back c.args.p.now (take at s0) (take at s) c.commute_right-at.new.p _ c.commute_before_all.new.s c.commute_before_all.new.p w.passed c.commute_before_all.ensures.exact in
    let list : c.commute_before_all.new.s ++ drop at s ≡ s0 = ap (λ x. x ++ drop at s) back.0 ∙ ap (λ x. take at s0 ++ x) w.waiting ∙ take-append-drop at s0 in
    record { exact = (λ any m. w.stops (omega arith) any.1 any.0 m, λ j. (back.1 j, list j)) }

pub returns : goal.returns
returns c = record { exact = passed_all c.args.s.now c.commute_right-at.new.s c.args.p.now c.commute_right-at.new.p c.commute_right-at.result c.commute_right-at.ensures (omega arith) }
