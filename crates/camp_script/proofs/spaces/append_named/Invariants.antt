use Rattle.camp_script.proofs.Common.{◌≡◌, ◌++◌, take, AreNames, spaced}
use Rattle.camp_script.proofs.spaces.append_named.Given as goal

abbrev pub invariant-loop-name : goal.invariant-loop-name
invariant-loop-name l = (l.text.items ≡ l.fn.text.items ++ spaced (take l.name-index l.names)) × AreNames (take l.name-index l.names)
