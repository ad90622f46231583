use Rattle.std.proofs.Common.{length}
use Rattle.camp_kept.specs.Entries.{AreInPlace}
use Rattle.camp_kept.proofs.texts.are_in_place.Given as goal

abbrev pub invariant-loop-one : goal.invariant-loop-one
invariant-loop-one l =
    (AreInPlace l.low l.high l.notes → AreInPlace l.least l.high l.rest) × (AreInPlace l.least l.high l.rest → AreInPlace l.low l.high l.notes)

abbrev pub decreases-loop-one : goal.decreases-loop-one
decreases-loop-one l = length l.rest
