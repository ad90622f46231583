use Rattle.std.proofs.Common.{◌≡◌, ◌++◌, take}
use Rattle.std.specs.List.{flat_map}
use Rattle.camp_stream.specs.QuotedPaths.{quoted_path_byte}
use Rattle.camp_stream.proofs.quoting.append_quoted.Given as goal

abbrev pub invariant-loop-byte : goal.invariant-loop-byte
invariant-loop-byte l = l.text.items ≡ l.initial.text.items ++ flat_map quoted_path_byte (take l.byte-index l.path)
