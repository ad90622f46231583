use Rattle.std.proofs.Common.{◌++◌, ◌∷◌, [], drop}
use Rattle.camp_catch.proofs.MergeListSteps.{IsMergedUpTo}
use Rattle.camp_catch.proofs.merging_lists.merge_lists.Given as goal

abbrev pub invariant-loop-catch : goal.invariant-loop-catch
invariant-loop-catch l =
    IsMergedUpTo l.p l.q l.merged.items (drop l.catch-index l.front ++ l.last ∷ []) l.beside.items
