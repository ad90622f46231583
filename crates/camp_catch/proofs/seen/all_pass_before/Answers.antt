use Rattle.std.proofs.Common.{refl}
use Rattle.camp_catch.proofs.seen.all_pass_before.Goals as goal

pub returns-in_default : goal.returns-in_default
returns-in_default c = λ k made. (rw c.in_default.is at c.in_ok-identity.ensures.exact) k.identity made.identity

pub returns : goal.returns
returns c =
    record { effect = refl; conflicts = c.in_ok-conflicts.ensures.exact; identity = rw c.in-Some.is at c.in_ok-identity.ensures.exact }
