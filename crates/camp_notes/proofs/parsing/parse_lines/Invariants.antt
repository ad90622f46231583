use Rattle.std.proofs.Common.{◌≡◌, ◌≤◌, ◌++◌, length}
use Rattle.camp_notes.specs.Limits.{longest_note}
use Rattle.camp_notes.specs.Texts.{signed_bytes}
use Rattle.camp_notes.proofs.parsing.parse_lines.Given as goal

abbrev pub invariant-loop-byte : goal.invariant-loop-byte
invariant-loop-byte l = (l.bytes ≡ signed_bytes l.text.items ++ l.rest) × (length l.text.items ≤ longest_note)

abbrev pub decreases-loop-byte : goal.decreases-loop-byte
decreases-loop-byte l = length l.rest
