use Rattle.camp_why.proofs.Words.{◌≡◌, drop, suc}
use Rattle.camp_why.specs.Stops.{first_stop}
use Rattle.camp_why.proofs.stops.first_stop.Given as goal

abbrev pub invariant-loop-at : goal.invariant-loop-at
invariant-loop-at l = first_stop (suc l.at) (drop l.at l.changes) l.next ≡ first_stop 1 l.changes l.tree
