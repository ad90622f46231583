use Rattle.std.proofs.Common.{◌≡◌, take}
use Rattle.camp_call.proofs.changes.Changes.is_same.Given as goal

abbrev pub invariant-loop-at : goal.invariant-loop-at
invariant-loop-at l = take l.at l.prims ≡ take l.at l.others
