use Rattle.camp_branch.proofs.Words.{◌∙◌, ap, arith, slice_cmp, nat_cmp, map_of, name_of}
use Rattle.camp_branch.proofs.NameSets.{one_comes}
use Rattle.camp_branch.proofs.name_sets.with_more.Goals as goal

pub loop-catch-preserved : goal.loop-catch-preserved
loop-catch-preserved c =
    one_comes (map_of (slice_cmp nat_cmp) c.loop-catch.all) (map_of (slice_cmp nat_cmp) c.in_ok-all.all) c.args.taken.now c.loop-catch.catch-index c.catch-item.result c.catch-item.result c.name.result.now _ c.loop-catch.invariant (omega arith) c.catch-item.is (c.name.ensures.exact ∙ ap name_of c.deref.ensures) c.in_ok-all.ensures.exact
