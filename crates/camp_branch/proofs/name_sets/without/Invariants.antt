use Rattle.camp_branch.proofs.Words.{◌&&◌, not, slice_cmp, nat_cmp, map_of, is_among, has_name, names_in}
use Rattle.camp_branch.proofs.NameSets.{IsLessened}
use Rattle.camp_branch.proofs.name_sets.without.Given as goal

abbrev pub invariant-loop-entry : goal.invariant-loop-entry
invariant-loop-entry l =
    IsLessened (map_of (slice_cmp nat_cmp) l.left) l.entry-iterator (λ name. has_name l.names name && not (is_among (names_in l.gone) name))
