use Rattle.camp_repo.proofs.BeginningSteps.{CopyHolds}
use Rattle.camp_repo.proofs.beginnings.with_pairs_of_copy.Given as goal

abbrev pub invariant-loop-beginning : goal.invariant-loop-beginning
invariant-loop-beginning l = CopyHolds l.known l.of l.copy l.beginning-iterator × CopyHolds l.known l.of l.copy l.all
