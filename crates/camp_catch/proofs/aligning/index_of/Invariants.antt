use Rattle.camp_catch.proofs.Words.{take, LacksKey}
use Rattle.camp_catch.proofs.aligning.index_of.Given as goal

abbrev pub invariant-loop-at : goal.invariant-loop-at
invariant-loop-at l = LacksKey l.key (take l.at l.list)
