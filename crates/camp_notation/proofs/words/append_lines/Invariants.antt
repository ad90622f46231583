use Rattle.camp_notation.proofs.Common.{◌≡◌, ◌++◌, take, string_bytes, row, word_text}
use Rattle.camp_notation.proofs.words.append_lines.Given as goal

abbrev pub invariant-loop-at : goal.invariant-loop-at
invariant-loop-at l = string_bytes l.text ≡ string_bytes l.initial.text ++ row word_text (take l.at l.lines)
