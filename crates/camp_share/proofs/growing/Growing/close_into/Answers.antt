use Rattle.camp_share.proofs.Words.{arith, common_steps}
use Rattle.camp_share.proofs.growing.Growing.close_into.Goals as goal

pub returns-then-not-is_empty-clause-items : goal.returns-then-not-is_empty-clause-items
returns-then-not-is_empty-clause-items g c = grind (arith, common_steps)

pub returns-clause-items : goal.returns-clause-items
returns-clause-items g c = grind (arith, common_steps)

pub returns-clause-parts : goal.returns-clause-parts
returns-clause-parts g c = grind (arith, common_steps)
