use Rattle.std.proofs.Common.{◌≡◌, map, take}
use Rattle.std.specs.List.{flat_map}
use Rattle.camp_coding.specs.Contents.{wrapped}
use Rattle.camp_coding.proofs.wrapping.store_wrapped.Given as goal

abbrev pub invariant-loop-line : goal.invariant-loop-line
invariant-loop-line l = l.stored.items ≡ flat_map wrapped (map (λ line. line.now) (take l.line-index l.lines))
