use Rattle.camp_branch.proofs.Words.{drop}
use Rattle.camp_branch.proofs.PullSteps.{DiffersOn}
use Rattle.camp_branch.proofs.pulls.first_difference.Given as goal

abbrev pub invariant-loop-at : goal.invariant-loop-at
invariant-loop-at l = DiffersOn l.list l.others (drop l.at l.list) (drop l.at l.others)
