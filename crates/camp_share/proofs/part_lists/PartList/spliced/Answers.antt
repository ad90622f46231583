use Rattle.camp_share.proofs.Words.{arith, common_steps}
use Rattle.camp_share.proofs.part_lists.PartList.spliced.Goals as goal

pub invariant_of-result : goal.invariant_of-result
invariant_of-result g c = grind (arith, common_steps)

pub returns-in-Some-changed : goal.returns-in-Some-changed
returns-in-Some-changed g c = grind (arith, common_steps)

pub invariant_of-result-2 : goal.invariant_of-result-2
invariant_of-result-2 g c = grind (arith, common_steps)

pub returns : goal.returns
returns g c = grind (arith, common_steps)
