use Rattle.camp_questions.proofs.Words.{◌≡◌, flat_map, take}
use Rattle.camp_questions.proofs.MarkSteps.{both_of}
use Rattle.camp_questions.proofs.marking.names_in_pairs.Given as goal

abbrev pub invariant-loop-pair : goal.invariant-loop-pair
invariant-loop-pair l = l.names.items ≡ flat_map both_of (take l.pair-index l.pairs)
