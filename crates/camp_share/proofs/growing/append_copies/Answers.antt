use Rattle.camp_share.proofs.Words.{arith, common_steps}
use Rattle.camp_share.proofs.growing.append_copies.Goals as goal

pub returns-in_err-share-clause-bounded : goal.returns-in_err-share-clause-bounded
returns-in_err-share-clause-bounded g c = grind (arith, common_steps)

pub loop-item-preserved : goal.loop-item-preserved
loop-item-preserved g c = grind (arith, common_steps)

pub returns-clause-bounded : goal.returns-clause-bounded
returns-clause-bounded g c = grind (arith, common_steps)
