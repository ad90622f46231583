use Rattle.camp_branch.proofs.Words.{drop, slice_cmp, nat_cmp, map_of, is_among}
use Rattle.camp_branch.proofs.NameSets.{IsFilled}
use Rattle.camp_branch.proofs.name_sets.filled.Given as goal

abbrev pub invariant-loop-name : goal.invariant-loop-name
invariant-loop-name l = IsFilled (map_of (slice_cmp nat_cmp) l.set) (drop l.name-index l.names) (is_among l.names)
