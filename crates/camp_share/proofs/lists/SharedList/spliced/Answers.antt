use Rattle.camp_share.proofs.Words.{arith, common_steps}
use Rattle.camp_share.proofs.lists.SharedList.spliced.Goals as goal

pub invariant_of-result : goal.invariant_of-result
invariant_of-result g c = grind (arith, common_steps)
