use Rattle.std.proofs.Common.{◌≡◌, map, take}
use Rattle.camp_coding.proofs.wrapping.store_plain.Given as goal

abbrev pub invariant-loop-line : goal.invariant-loop-line
invariant-loop-line l = l.stored.items ≡ map (λ line. line.now) (take l.line-index l.lines)
