use Rattle.camp_catch.proofs.Words.{List, refl, inverse_of, Named, Norm, AddsToContext, PassesBy, Becomes}
use Rattle.camp_catch.proofs.Determined.{leads_nowhere}
use Rattle.camp_catch.proofs.PartsDetermined.{comes_before}
use Rattle.camp_catch.proofs.commuting.conflictor_past_plain.Goals as goal

pub returns-in_default : goal.returns-in_default
returns-in_default c = λ pair w. (rw c.in_default.is at c.in_ok-second.ensures) (w.b', w.left) w.passes

pub returns-in-None : goal.returns-in-None
returns-in-None c =
    let back = inverse_of c.args.b.now in
    λ pair w. leads_nowhere (λ (p : Named × List Named). Becomes (Norm p.1) (AddsToContext back) (PassesBy back) c.args.j.now) (comes_before c.args.j.now.effect c.args.b.now) _ (rw c.in-Some.is at c.in_ok-second.ensures) (rw c.in-None.is at c.in_ok-inverse_passes_before.ensures) (w.b', w.left) w.passes w.moved w.becomes

pub returns-in-Some-2 : goal.returns-in-Some-2
returns-in-Some-2 c =
    record { b' = _; left = _; passes = rw c.in-Some.is at c.in_ok-second.ensures; moved = _; becomes = rw c.in-Some-2.is at c.in_ok-inverse_passes_before.ensures; second = refl; first = refl }
