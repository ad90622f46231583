use Rattle.std.proofs.Common.{◌≡◌, ◌++◌}
use Rattle.camp_catch.proofs.fast.gaining.all_with_gains.Given as goal

abbrev pub invariant-loop-catch : goal.invariant-loop-catch
invariant-loop-catch l = l.fn.list.items ≡ l.settled.items ++ l.catch-iterator.rest.items
