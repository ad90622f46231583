use Rattle.std.proofs.Common.{◌≡◌, ◌≤◌, take}
use Rattle.camp_notes.specs.Faults.{feeds_in}
use Rattle.camp_notes.proofs.parsing.feeds_in.Given as goal

abbrev pub invariant-loop-byte : goal.invariant-loop-byte
invariant-loop-byte l = (l.count ≡ feeds_in (take l.byte-index l.bytes)) × (l.count ≤ l.byte-index)
