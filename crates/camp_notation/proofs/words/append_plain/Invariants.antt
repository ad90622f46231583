use Rattle.camp_notation.proofs.Common.{◌≡◌, ◌++◌, take, string_bytes}
use Rattle.camp_notation.proofs.words.append_plain.Given as goal

abbrev pub invariant-loop-byte : goal.invariant-loop-byte
invariant-loop-byte l = string_bytes l.text ≡ string_bytes l.initial.text ++ take l.byte-index l.bytes
