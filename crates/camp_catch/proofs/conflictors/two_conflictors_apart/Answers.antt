use Rattle.camp_catch.proofs.Words.{List, refl, ◌≡◌, told_not, Named, AddsAll, PassesByAll, Becomes}
use Rattle.camp_catch.proofs.Determined.{leads_nowhere}
use Rattle.camp_catch.proofs.PartsDetermined.{effects_pass}
use Rattle.camp_catch.proofs.conflictors.two_conflictors_apart.Goals as goal

pub returns-then-not-lacks_key : goal.returns-then-not-lacks_key
returns-then-not-lacks_key c = λ pair w.
    told_not _ c.if-not-lacks_key.true (rw (c.items.ensures.exact, c.context.ensures.exact, c.key.ensures.exact) at c.lacks_key.ensures) w.unseen

pub returns-in_default : goal.returns-in_default
returns-in_default c = λ pair w. (rw c.in_default.is at c.in_ok-effect.ensures) (w.effect, w.rr') w.effects

pub returns-in_default-2 : goal.returns-in_default-2
returns-in_default-2 c =
    let k = c.args.k.now in
    λ pair w. leads_nowhere (λ (e : List Named × List Named). Becomes (λ s. s ≡ e.0) (AddsAll e.1) (PassesByAll e.1) k) (effects_pass c.args.j.now.effect k.effect k.conflicts) _ (rw c.in-Some.is at c.in_ok-effect.ensures) (rw c.in_default-2.is at c.in_ok-moved.ensures) (w.effect, w.rr') w.effects w.moved w.becomes

pub returns : goal.returns
returns c =
    let unseen = (rw (c.items.ensures.exact, c.context.ensures.exact, c.key.ensures.exact) at c.lacks_key.ensures).0 c.if-not-lacks_key.false in
    record { apart = c.requires; unseen = unseen; effect = _; rr' = _; effects = rw c.in-Some.is at c.in_ok-effect.ensures; moved = _; becomes = rw c.in-Some-2.is at c.in_ok-moved.ensures; own = _; own_becomes = c.in_ok-own.ensures; second = refl; first = refl }
