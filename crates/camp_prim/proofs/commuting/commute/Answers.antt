use Rattle.camp_prim.proofs.CommuteLaws.{swap_laws}
use Rattle.camp_prim.proofs.commuting.commute.Goals as goal

pub returns-then-not-commute_in_place-clause-exact : goal.returns-then-not-commute_in_place-clause-exact
returns-then-not-commute_in_place-clause-exact c = λ any w.
    c.if-not-commute_in_place.ensures.exact.0 (any.1, any.0) (rw (c.in_ok-first.ensures.exact, c.in_ok-second.ensures.exact) w)

pub returns : goal.returns
returns c =
    let made = rw (c.in_ok-first.ensures.exact, c.in_ok-second.ensures.exact) at c.if-not-commute_in_place.ensures.exact in
    record { exact = made; laws = swap_laws c.args.p.now c.args.q.now c.commute_in_place.new.q c.commute_in_place.new.p made; memory = tt }
