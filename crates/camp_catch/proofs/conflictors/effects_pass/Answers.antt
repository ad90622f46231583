use Rattle.camp_catch.proofs.Words.{subst, one_split, PassesAll}
use Rattle.camp_catch.proofs.conflictors.effects_pass.Goals as goal

pub returns-in_default : goal.returns-in_default
returns-in_default c = λ pair w. (rw c.in_default.is at c.in_ok-common.ensures) (w.common, w.rr) w.split

pub returns-in_default-2 : goal.returns-in_default-2
returns-in_default-2 c =
    λ pair w. (rw c.in_default-2.is at c.in_ok-second.ensures.exact) (w.passed, w.left) (subst (λ x. PassesAll x c.args.s.now w.passed w.left) (one_split _ c.args.r.now w.common w.rr _ _ w.split (rw c.in-Some.is at c.in_ok-common.ensures)).1 w.passes)

pub returns : goal.returns
returns c =
    let (s', second, whole) = c.in_ok-effect.ensures in
    record { common = _; rr = _; split = rw c.in-Some.is at c.in_ok-common.ensures; passed = _; left = _; passes = rw c.in-Some-2.is at c.in_ok-second.ensures.exact; s' = s'; second = second; first = c.ordered.ensures.exact; whole = whole }
