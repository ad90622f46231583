use Rattle.camp_notation.proofs.Common.{◌≡◌, ◌++◌, take, string_bytes, row, catch_text}
use Rattle.camp_notation.proofs.catches.append_catches.Given as goal

abbrev pub invariant-loop-at : goal.invariant-loop-at
invariant-loop-at l = string_bytes l.text ≡ string_bytes l.initial.text ++ row (catch_text l.known) (take l.at l.list)
