use Rattle.camp_share.proofs.Words.{◌≡◌, ◌+◌, length, drop, joined}
use Rattle.camp_share.proofs.growing.length_of.Given as goal

abbrev pub invariant-loop-part : goal.invariant-loop-part
invariant-loop-part g l = l.sum + length (joined (drop l.part-index l.parts)) ≡ length (joined l.parts)
