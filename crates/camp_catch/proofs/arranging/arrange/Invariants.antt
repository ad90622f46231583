use Rattle.camp_catch.proofs.Words.{drop, slice_cmp, keys, nat_cmp, map_of}
use Rattle.camp_catch.proofs.MoveSteps.{IsArrangedUpTo}
use Rattle.camp_catch.proofs.arranging.arrange.Given as goal

abbrev pub invariant-loop-catch : goal.invariant-loop-catch
invariant-loop-catch g l =
    IsArrangedUpTo (keys (map_of (slice_cmp nat_cmp) l.names)) l.list l.first.items l.rest.items (drop l.catch-index l.list)
