use Rattle.camp_store.proofs.Words.{length}
use Rattle.camp_store.proofs.BlockLemmas.{ReadSoFar}
use Rattle.camp_store.proofs.readings.decode.Given as goal

abbrev pub invariant-reading : goal.invariant-reading
invariant-reading l = ReadSoFar l.bytes l.texts.items l.digest l.rest

abbrev pub decreases-reading : goal.decreases-reading
decreases-reading l = length l.rest
