use Rattle.std.proofs.Common.{length}
use Rattle.camp_notes.proofs.ParseLemmas.{AreParsed}
use Rattle.camp_notes.proofs.parsing.split_notes.Given as goal

abbrev pub invariant-loop-alloc : goal.invariant-loop-alloc
invariant-loop-alloc l = AreParsed l.text l.notes.items l.rest

abbrev pub decreases-loop-alloc : goal.decreases-loop-alloc
decreases-loop-alloc l = length l.rest
