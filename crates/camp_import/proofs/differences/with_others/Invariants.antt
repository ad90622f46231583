use Rattle.camp_import.proofs.DifferenceLemmas.{AddsSoFar}
use Rattle.camp_import.proofs.differences.with_others.Given as goal

abbrev pub invariant-files : goal.invariant-files
invariant-files l = AddsSoFar l.tree l.other l.initial.found l.file-iterator l.found
