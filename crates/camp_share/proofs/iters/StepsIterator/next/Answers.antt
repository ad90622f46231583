use Rattle.camp_share.proofs.Words.{arith, common_steps}
use Rattle.camp_share.proofs.iters.StepsIterator.next.Goals as goal

pub returns-then-not-is_empty-clause-steps : goal.returns-then-not-is_empty-clause-steps
returns-then-not-is_empty-clause-steps g c = grind (arith, common_steps)

pub returns-then-not-is_empty-2-clause-steps : goal.returns-then-not-is_empty-2-clause-steps
returns-then-not-is_empty-2-clause-steps g c = grind (arith, common_steps)

pub returns-clause-steps : goal.returns-clause-steps
returns-clause-steps g c = grind (arith, common_steps)
