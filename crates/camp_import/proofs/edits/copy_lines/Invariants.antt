use Rattle.std.proofs.Common.{◌≡◌, take}
use Rattle.camp_import.proofs.edits.copy_lines.Given as goal

abbrev pub invariant-loop-line : goal.invariant-loop-line
invariant-loop-line l = l.copied.items ≡ take l.line-index l.lines
