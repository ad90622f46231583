use Rattle.camp_share.proofs.Words.{arith, common_steps}
use Rattle.camp_share.proofs.growing.close.Goals as goal

pub returns-clause-parts : goal.returns-clause-parts
returns-clause-parts g c = grind (arith, common_steps)

pub returns-clause-joined : goal.returns-clause-joined
returns-clause-joined g c = grind (arith, common_steps)
