use Rattle.camp_talk.proofs.Words.{◌≡◌, take}
use Rattle.camp_talk.specs.Visible.{visible}
use Rattle.camp_talk.proofs.visible.visible.Given as goal

abbrev pub invariant-loop-byte : goal.invariant-loop-byte
invariant-loop-byte l = l.text.items ≡ visible (take l.byte-index l.bytes)
