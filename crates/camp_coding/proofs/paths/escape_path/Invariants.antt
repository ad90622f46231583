use Rattle.std.proofs.Common.{◌≡◌, take}
use Rattle.camp_coding.specs.GitPaths.{escaped_path}
use Rattle.camp_coding.proofs.paths.escape_path.Given as goal

abbrev pub invariant-loop-byte : goal.invariant-loop-byte
invariant-loop-byte l = l.text.items ≡ escaped_path (take l.byte-index l.path)
