use Rattle.std.proofs.Common.{◌≡◌, map, drop}
use Rattle.std.specs.List.{list_any}
use Rattle.camp_coding.specs.Contents.{is_too_long}
use Rattle.camp_coding.proofs.wrapping.has_long_line.Given as goal

abbrev pub invariant-loop-line : goal.invariant-loop-line
invariant-loop-line l =
    list_any is_too_long (map (λ line. line.now) l.lines) ≡ list_any is_too_long (map (λ line. line.now) (drop l.line-index l.lines))
