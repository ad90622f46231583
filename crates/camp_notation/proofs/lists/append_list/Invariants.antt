use Rattle.camp_notation.proofs.Common.{◌≡◌, ◌++◌, take, string_bytes, row, named_text}
use Rattle.camp_notation.proofs.lists.append_list.Given as goal

abbrev pub invariant-loop-at : goal.invariant-loop-at
invariant-loop-at l = string_bytes l.text ≡ string_bytes l.initial.text ++ row (named_text l.known) (take l.at l.s)
