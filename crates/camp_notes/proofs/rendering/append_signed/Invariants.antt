use Rattle.std.proofs.Common.{◌≡◌, ◌++◌, take}
use Rattle.camp_notes.specs.Texts.{signed_bytes}
use Rattle.camp_notes.proofs.rendering.append_signed.Given as goal

abbrev pub invariant-loop-byte : goal.invariant-loop-byte
invariant-loop-byte l = l.text.items ≡ l.initial.text.items ++ signed_bytes (take l.byte-index l.bytes)
