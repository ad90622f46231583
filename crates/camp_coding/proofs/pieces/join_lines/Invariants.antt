use Rattle.std.proofs.Common.{◌≡◌, false, take}
use Rattle.camp_coding.specs.Contents.{stored_text}
use Rattle.camp_coding.proofs.pieces.join_lines.Given as goal

abbrev pub invariant-loop-line : goal.invariant-loop-line
invariant-loop-line l = l.text.items ≡ stored_text false (take l.line-index l.stored)
