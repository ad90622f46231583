use Rattle.camp_share.proofs.Words.{arith, common_steps}
use Rattle.camp_share.proofs.lists.SharedList.has_at.Goals as goal

pub loop-item-preserved : goal.loop-item-preserved
loop-item-preserved g c = grind (arith, common_steps)

pub returns-then-not-is_some_and : goal.returns-then-not-is_some_and
returns-then-not-is_some_and g c = grind (arith, common_steps)
