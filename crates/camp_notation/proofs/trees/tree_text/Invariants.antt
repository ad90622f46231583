use Rattle.camp_notation.proofs.Common.{◌≡◌, ◌++◌, take, string_bytes, entries, row, file_notation}
use Rattle.camp_notation.proofs.trees.tree_text.Given as goal

abbrev pub invariant-loop-at : goal.invariant-loop-at
invariant-loop-at l = string_bytes l.text ≡ string_bytes l.initial.text ++ row file_notation (take l.at (entries l.tree))
