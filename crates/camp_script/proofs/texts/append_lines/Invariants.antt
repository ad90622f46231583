use Rattle.camp_script.proofs.Common.{◌≡◌, ◌++◌, flat_map, signed_line}
use Rattle.camp_script.proofs.texts.append_lines.Given as goal

abbrev pub invariant-loop-line : goal.invariant-loop-line
invariant-loop-line l =
    l.text.items ++ flat_map (signed_line l.sign) l.line-iterator ≡ l.initial.text.items ++ flat_map (signed_line l.sign) l.lines
