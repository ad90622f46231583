use Rattle.camp_catch.proofs.seen.passes_before.Goals as goal

pub returns-in_default : goal.returns-in_default
returns-in_default c = λ k made. (rw c.in_default.is at c.in_ok-identity.ensures.exact) k.identity made.identity

pub returns : goal.returns
returns c =
    let made = c.in_ok-made.ensures in
    record { effect = made.effect; conflicts = made.conflicts; identity = rw made.identity (rw c.in-Some.is at c.in_ok-identity.ensures.exact) }
