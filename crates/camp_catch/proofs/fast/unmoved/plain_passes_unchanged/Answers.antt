use Rattle.camp_catch.proofs.Words.{refl}
use Rattle.camp_catch.proofs.fast.unmoved.plain_passes_unchanged.Goals as goal

pub returns-in-None : goal.returns-in-None
returns-in-None c = λ yes.
    let own = c.stays_unchanged.ensures in
    record { apart = rw (c.key.ensures.exact, c.label.ensures.exact) at c.in-None.ensures.exact; passed = _; a' = _; passes = own.passes yes; moved = _; becomes = own.passed yes; second = refl; first = refl }
