use Rattle.camp_git.proofs.Words.{◌≡◌, ◌++◌, take}
use Rattle.camp_git.specs.FastImport.{escaped}
use Rattle.camp_git.proofs.texts.append_escaped.Given as goal

abbrev pub invariant-loop-byte : goal.invariant-loop-byte
invariant-loop-byte l = l.text.items ≡ l.initial.text.items ++ escaped (take l.byte-index l.bytes)
