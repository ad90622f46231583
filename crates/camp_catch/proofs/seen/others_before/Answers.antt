use Rattle.std.proofs.Common.{refl}
use Rattle.camp_catch.proofs.seen.others_before.Goals as goal

pub returns : goal.returns
returns c = record { effect = refl; conflicts = c.in_ok-conflicts.ensures.exact; identity = c.in_ok-identity.ensures.exact }
