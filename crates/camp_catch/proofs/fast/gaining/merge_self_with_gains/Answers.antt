use Rattle.std.proofs.Common.{refl}
use Rattle.camp_catch.proofs.fast.gaining.merge_self_with_gains.Goals as goal

pub returns-in_default : goal.returns-in_default
returns-in_default c =
    let never = rw (c.in_default.is, c.deref.ensures, c.in_ok-first.ensures, c.in_ok-second.ensures) at c.in_ok-next.ensures.exact in
    record { exact = (never, refl) }
