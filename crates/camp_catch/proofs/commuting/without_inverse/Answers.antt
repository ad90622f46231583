use Rattle.camp_catch.proofs.Words.{ap, sym, ◌∙◌, inverse_of-inverse_of, told_not, inverse_of, one_front}
use Rattle.camp_catch.proofs.commuting.without_inverse.Goals as goal

pub returns-in_default : goal.returns-in_default
returns-in_default c =
    λ rest w. (rw (c.in_default.is, c.opposite.ensures.exact, c.label.ensures.exact) at c.in_ok-back.ensures.exact) (inverse_of c.args.a.now, rest) w

pub returns-then-not-is_same : goal.returns-then-not-is_same
returns-then-not-is_same c =
    λ rest w. told_not _ c.if-not-is_same.true c.is_same.ensures.exact (c.invert.ensures.exact ∙ ap inverse_of (one_front _ c.args.s.now _ rest _ (inverse_of c.args.a.now) (rw (c.in-Some.is, c.opposite.ensures.exact, c.label.ensures.exact) at c.in_ok-back.ensures.exact) w).0 ∙ inverse_of-inverse_of c.args.a.now)

pub returns : goal.returns
returns c =
    let it = sym (inverse_of-inverse_of c.in-Some.back) ∙ ap inverse_of (sym c.invert.ensures.exact ∙ c.is_same.ensures.exact.0 c.if-not-is_same.false) in
    rw it at (rw (c.in-Some.is, c.opposite.ensures.exact, c.label.ensures.exact) at c.in_ok-back.ensures.exact)
