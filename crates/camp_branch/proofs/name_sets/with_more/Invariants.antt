use Rattle.camp_branch.proofs.Words.{◌||◌, drop, map, slice_cmp, nat_cmp, map_of, is_among, name_of, has_name}
use Rattle.camp_branch.proofs.NameSets.{IsFilled}
use Rattle.camp_branch.proofs.name_sets.with_more.Given as goal

abbrev pub invariant-loop-catch : goal.invariant-loop-catch
invariant-loop-catch l =
    IsFilled (map_of (slice_cmp nat_cmp) l.all) (map name_of (drop l.catch-index l.taken)) (λ name. has_name l.fn.names name || is_among (map name_of l.taken) name)
