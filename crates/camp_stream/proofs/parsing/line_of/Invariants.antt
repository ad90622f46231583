use Rattle.std.proofs.Common.{◌≡◌, ◌==◌, take}
use Rattle.std.specs.List.{count_by}
use Rattle.camp_base.specs.Signs.{newline}
use Rattle.camp_stream.proofs.parsing.line_of.Given as goal

abbrev pub invariant-loop-byte : goal.invariant-loop-byte
invariant-loop-byte l = l.feeds ≡ count_by (λ byte. byte == newline) (take l.byte-index l.read)
