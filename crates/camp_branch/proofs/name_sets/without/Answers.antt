use Rattle.camp_branch.proofs.Words.{slice_cmp, nat_cmp, map_of}
use Rattle.camp_branch.proofs.NameSets.{one_goes}
use Rattle.camp_branch.proofs.name_sets.without.Goals as goal

pub loop-entry-preserved : goal.loop-entry-preserved
loop-entry-preserved c =
    one_goes (map_of (slice_cmp nat_cmp) c.loop-entry.left) (map_of (slice_cmp nat_cmp) c.in_ok-left-2.left) c.loop-entry.entry-iterator c.next.new.self c.in-Some.entry.now _ c.loop-entry.invariant c.in-Some.ensures.steps c.in_ok-left-2.ensures.exact
