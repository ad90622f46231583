use Rattle.camp_catch.proofs.Words.{ap, Catch}
use Rattle.camp_catch.proofs.commuting.plain_leaves_the_set.Goals as goal

pub returns-in_default : goal.returns-in_default
returns-in_default c = λ pair w. (rw c.in_default.is at c.in_ok-rest.ensures) w.rest w.front

pub returns : goal.returns
returns c =
    let made = rw (c.key.ensures.exact, c.label.ensures.exact) at c.in_ok-second.ensures in
    let q = c.requires in
    record { z = _; member = q.member; named = q.named; several = q.several; rest = _; front = rw c.in-Some.is at c.in_ok-rest.ensures; s' = made.s'; effect = made.effect; second = ap Catch.Conflictor made.is; first = ap Catch.Conflictor c.in_ok-first.ensures }
