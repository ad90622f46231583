use Rattle.camp_repo.proofs.BeginningSteps.{RestHold}
use Rattle.camp_repo.proofs.beginnings.KnownBeginnings.between.Given as goal

abbrev pub invariant-loop-beginning : goal.invariant-loop-beginning
invariant-loop-beginning l = RestHold l.self l.beginning-iterator
