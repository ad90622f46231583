use Rattle.std.proofs.Common.{◌≡◌, take}
use Rattle.camp_call.proofs.changes.copies.Given as goal

abbrev pub invariant-loop-prim : goal.invariant-loop-prim
invariant-loop-prim l = l.copies.items ≡ take l.prim-index l.prim-items
