use Rattle.camp_notation.proofs.Common.{◌≡◌, ◌++◌, take, string_bytes, flat_map, quoted_byte}
use Rattle.camp_notation.proofs.words.append_quoted.Given as goal

abbrev pub invariant-loop-byte : goal.invariant-loop-byte
invariant-loop-byte l = string_bytes l.text ≡ string_bytes l.initial.text ++ flat_map quoted_byte (take l.byte-index l.bytes)
