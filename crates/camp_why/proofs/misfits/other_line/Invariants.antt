use Rattle.camp_why.proofs.Words.{◌≡◌}
use Rattle.camp_why.proofs.Misfitting.{found_from, of_edit}
use Rattle.camp_why.proofs.misfits.other_line.Given as goal

abbrev pub invariant-loop-at : goal.invariant-loop-at
invariant-loop-at l = found_from l.from l.at l.old l.lines ≡ of_edit l.hunk l.lines
