use Rattle.camp_clients.proofs.Words.{arith, common_steps}
use Rattle.camp_clients.proofs.comparisons.matches_next.Goals as goal

pub returns-then-seat-sections : goal.returns-then-seat-sections
returns-then-seat-sections g c = grind (arith, common_steps)

pub returns-then-reported-at : goal.returns-then-reported-at
returns-then-reported-at g c = grind (arith, common_steps)

pub returns-then-not-is_same : goal.returns-then-not-is_same
returns-then-not-is_same g c = grind (arith, common_steps)

pub returns-in-None : goal.returns-in-None
returns-in-None g c = grind (arith, common_steps)

pub returns-else-not-is_same : goal.returns-else-not-is_same
returns-else-not-is_same g c = grind (arith, common_steps)
