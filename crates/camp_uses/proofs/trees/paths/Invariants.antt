use Rattle.std.proofs.Common.{◌≡◌, ◌++◌, map}
use Rattle.std.specs.FinMap.{keys}
use Rattle.camp_uses.proofs.trees.paths.Given as goal

abbrev pub invariant-loop-path : goal.invariant-loop-path
invariant-loop-path l = l.paths.items ++ map (λ file. file.0) l.path-iterator ≡ keys l.tree
