use Rattle.std.proofs.Common.{◌≡◌, take}
use Rattle.camp_prim.proofs.bodies.copy_lines.Given as goal

abbrev pub invariant-loop-line : goal.invariant-loop-line
invariant-loop-line l = l.copy.items ≡ take l.line-index l.line-items
