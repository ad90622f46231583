use Rattle.camp_script.proofs.Common.{◌≡◌, ◌++◌, take, flat_map, AreLines, signed_line}
use Rattle.camp_script.proofs.writing.append_side.Given as goal

abbrev pub invariant-loop-line : goal.invariant-loop-line
invariant-loop-line l =
    (l.text.items ≡ l.initial.text.items ++ flat_map (signed_line l.sign) (take l.line-index l.lines)) × AreLines (take l.line-index l.lines)
