use Rattle.camp_why.proofs.Words.{◌≡◌, drop, suc}
use Rattle.camp_why.specs.Causes.{first_long}
use Rattle.camp_why.proofs.causes.first_long.Given as goal

abbrev pub invariant-loop-at : goal.invariant-loop-at
invariant-loop-at l = first_long (suc l.at) (drop l.at l.changes) ≡ first_long 1 l.changes
