use Rattle.camp_catch.proofs.Words.{slice_cmp, nat_cmp, map_of, catch_key}
use Rattle.camp_catch.proofs.MoveSteps.{names_decide}
use Rattle.camp_catch.proofs.arranging.is_of.Goals as goal

pub returns : goal.returns
returns g c =
    rw (c.contains_key.ensures.exact, c.name.ensures.exact) (names_decide (map_of (slice_cmp nat_cmp) c.args.names.now) (catch_key c.args.catch.now).name)
