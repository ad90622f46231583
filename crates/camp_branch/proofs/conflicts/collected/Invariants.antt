use Rattle.camp_branch.proofs.Words.{◌≡◌, ◌++◌, pairs_in}
use Rattle.camp_branch.proofs.conflicts.collected.Given as goal

abbrev pub invariant-loop-catch : goal.invariant-loop-catch
invariant-loop-catch l = l.pairs.items ++ pairs_in l.catch-iterator ≡ pairs_in l.catches
