use Rattle.camp_catch.proofs.Words.{ap, Catch}
use Rattle.camp_catch.proofs.merging.first_conflict.Goals as goal

pub returns : goal.returns
returns c = record { no_merge = c.requires; after = ap Catch.Conflictor c.in_ok-after.ensures; beside = ap Catch.Conflictor c.in_ok-beside.ensures }
