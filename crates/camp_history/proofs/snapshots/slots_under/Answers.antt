use Rattle.camp_history.proofs.Words.{arith, elements}
use Rattle.camp_history.proofs.snapshots.slots_under.Goals as goal

pub loop-preserved : goal.loop-preserved
loop-preserved g c = grind (arith, elements)
