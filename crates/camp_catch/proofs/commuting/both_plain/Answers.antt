use Rattle.std.proofs.Common.{refl}
use Rattle.camp_catch.proofs.commuting.both_plain.Goals as goal

pub returns-in_default-clause-exact : goal.returns-in_default-clause-exact
returns-in_default-clause-exact c =
    λ pair w. (rw c.in_default.is at c.in_ok-b.ensures.exact) (w.b', w.a') w.swap

pub returns-clause-exact : goal.returns-clause-exact
returns-clause-exact c =
    record { b' = c.in-Some.b; a' = c.in-Some.a; swap = rw c.in-Some.is at c.in_ok-b.ensures.exact; second = refl; first = refl }
