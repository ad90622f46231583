use Rattle.camp_notation.proofs.Common.{◌≡◌, ◌++◌, take, string_bytes, values, row, contexted_text}
use Rattle.camp_notation.proofs.contexts.append_members.Given as goal

abbrev pub invariant-loop-at : goal.invariant-loop-at
invariant-loop-at l = string_bytes l.text ≡ string_bytes l.initial.text ++ row (contexted_text l.known) (take l.at (values l.xs))
