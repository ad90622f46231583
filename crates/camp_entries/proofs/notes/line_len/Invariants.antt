use Rattle.std.proofs.Common.{◌≡◌, true, take}
use Rattle.camp_entries.specs.Texts.{is_one_line}
use Rattle.camp_entries.proofs.notes.line_len.Given as goal

abbrev pub invariant-loop-at : goal.invariant-loop-at
invariant-loop-at l = is_one_line (take l.at l.text) ≡ true
