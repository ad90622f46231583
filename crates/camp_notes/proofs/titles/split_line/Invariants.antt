use Rattle.std.proofs.Common.{take}
use Rattle.camp_notes.specs.Faults.{has_no_feed}
use Rattle.camp_notes.proofs.titles.split_line.Given as goal

abbrev pub invariant-loop-at : goal.invariant-loop-at
invariant-loop-at l = has_no_feed (take l.at l.bytes)
