use Rattle.camp_branch.proofs.Words.{◌≡◌, ◌++◌, map, take, flat_map, values, pair_of}
use Rattle.camp_branch.proofs.conflicts.pair_with_each.Given as goal

abbrev pub invariant-loop-index : goal.invariant-loop-index
invariant-loop-index l =
    l.pairs.items ≡ l.fn.pairs.items ++ flat_map (pair_of l.name) (map (λ x. x.patch.name) (take l.index (values l.set)))
