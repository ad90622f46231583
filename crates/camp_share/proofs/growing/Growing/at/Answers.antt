use Rattle.camp_share.proofs.Words.{arith, common_steps}
use Rattle.camp_share.proofs.growing.Growing.at.Goals as goal

pub returns-then-left-len : goal.returns-then-left-len
returns-then-left-len g c = grind (arith, common_steps)

pub loop-part-preserved : goal.loop-part-preserved
loop-part-preserved g c = grind (arith, common_steps)

pub index-requires-2 : goal.index-requires-2
index-requires-2 g c = grind (arith, common_steps)

pub returns : goal.returns
returns g c = grind (arith, common_steps)
