use Rattle.camp_catch.proofs.Words.{ap, Catch}
use Rattle.camp_catch.proofs.merging.plain_joins_conflictor.Goals as goal

pub returns : goal.returns
returns c =
    let (seen, sees, conflict) = c.requires in
    let takes = c.in_ok-taken.ensures in
    record { seen = seen; sees = sees; conflict = conflict; z = _; becomes = c.in_ok-z.ensures; effect = takes.s'; joined = takes.effect; after = ap Catch.Conflictor takes.is; beside = ap Catch.Conflictor c.in_ok-beside.ensures }
