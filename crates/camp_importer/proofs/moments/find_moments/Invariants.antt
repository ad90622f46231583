use Rattle.camp_importer.proofs.MomentLemmas.{AreSoFar}
use Rattle.camp_importer.proofs.moments.find_moments.Given as goal

abbrev pub invariant-loop-entry : goal.invariant-loop-entry
invariant-loop-entry l = AreSoFar l.book l.entry-index l.state l.branches
