use Rattle.camp_catch.proofs.Words.{ap, refl, subst, sym, ◌∙◌, inverse_of-inverse_of, inverse_of, Commute}
use Rattle.camp_catch.proofs.merging.clean.Goals as goal

pub returns : goal.returns
returns c =
    record { exact = record { b' = c.in-Some.b; a' = c.invert.result; merge = subst (Commute (inverse_of c.args.a.now) c.args.b.now c.in-Some.b) (sym (ap inverse_of c.invert.ensures.exact ∙ inverse_of-inverse_of c.in-Some.back)) (rw c.in-Some.is at c.in_ok-b.ensures); after = refl; beside = refl } }

pub returns-in_default : goal.returns-in_default
returns-in_default c =
    record { exact = λ pair w. (rw c.in_default.is at c.in_ok-b.ensures) (w.b', inverse_of w.a') w.merge }
