use Rattle.std.proofs.Common.{refl}
use Rattle.camp_catch.proofs.seen.set_before.Goals as goal

pub returns : goal.returns
returns c = record { effect = c.ordered-effect.ensures.exact; conflicts = c.in_ok-conflicts.ensures.exact; identity = refl }
