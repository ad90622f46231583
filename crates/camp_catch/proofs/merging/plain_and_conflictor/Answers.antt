use Rattle.camp_prim.proofs.Moving.{told_not}
use Rattle.camp_catch.proofs.MergeSteps.{only_beside}
use Rattle.camp_catch.proofs.merging.plain_and_conflictor.Goals as goal

pub plain_joins_conflictor-requires : goal.plain_joins_conflictor-requires
plain_joins_conflictor-requires c =
    let told = c.in_ok-conflicts_with.ensures in
    (told.seen, told.sees, told.tells.0 c.if-branch.true)

pub plain_beside_conflictor-requires : goal.plain_beside_conflictor-requires
plain_beside_conflictor-requires c =
    let told = c.in_ok-conflicts_with.ensures in
    (told.seen, told.sees, told_not _ c.if-branch.false told.tells)

pub returns : goal.returns
returns c =
    let told = c.in_ok-conflicts_with.ensures in
    record { exact = only_beside c.args.a.now c.args.k.now told.seen told.sees (told_not _ c.if-branch.false told.tells) c.in_ok-plain_beside_conflictor.field-0 c.in_ok-plain_beside_conflictor.ensures.exact }
