use Rattle.camp_catch.proofs.Words.{List, refl, Named, Norm, AddsToContext, PassesBy, Becomes}
use Rattle.camp_catch.proofs.Determined.{leads_nowhere}
use Rattle.camp_catch.proofs.PartsDetermined.{one_passes}
use Rattle.camp_catch.proofs.commuting.plain_past_conflictor.Goals as goal

pub returns-in_default : goal.returns-in_default
returns-in_default c = λ pair w. (rw c.in_default.is at c.in_ok-passed.ensures.exact) (w.passed, w.a') w.passes

pub returns-in-None : goal.returns-in-None
returns-in-None c =
    λ pair w. leads_nowhere (λ (p : List Named × Named). Becomes (Norm p.0) (AddsToContext p.1) (PassesBy p.1) c.args.k.now) (one_passes c.args.a.now c.args.k.now.effect) _ (rw c.in-Some.is at c.in_ok-passed.ensures.exact) (rw c.in-None.is at c.in_ok-passes_before.ensures) (w.passed, w.a') w.passes w.moved w.becomes

pub returns-in-Some-2 : goal.returns-in-Some-2
returns-in-Some-2 c =
    record { apart = c.requires; passed = _; a' = _; passes = rw c.in-Some.is at c.in_ok-passed.ensures.exact; moved = _; becomes = rw c.in-Some-2.is at c.in_ok-passes_before.ensures; second = refl; first = refl }
