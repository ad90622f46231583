use Rattle.camp_seq.proofs.LabelSteps.{LeastSoFar}
use Rattle.camp_seq.proofs.orders.least_above.Given as goal

abbrev pub invariant-loop-p : goal.invariant-loop-p
invariant-loop-p l = LeastSoFar l.tried l.items l.p-index l.least
