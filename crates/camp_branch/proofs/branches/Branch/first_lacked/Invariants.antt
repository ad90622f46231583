use Rattle.camp_branch.proofs.Words.{◌≡◌, drop, first_lacked}
use Rattle.camp_branch.proofs.branches.Branch.first_lacked.Given as goal

abbrev pub invariant-loop-name : goal.invariant-loop-name
invariant-loop-name l = first_lacked l.self (drop l.name-index l.names) ≡ first_lacked l.self l.names
