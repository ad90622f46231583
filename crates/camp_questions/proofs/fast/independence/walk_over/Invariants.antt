use Rattle.camp_questions.proofs.Words.{take, names_in, catches_in_order}
use Rattle.camp_questions.proofs.WalkedPatches.{IsGrown}
use Rattle.camp_questions.proofs.fast.independence.walk_over.Given as goal

abbrev pub invariant-loop-patch : goal.invariant-loop-patch
invariant-loop-patch l =
    IsGrown (catches_in_order l.patches) (names_in l.fn.names) (names_in l.held) (catches_in_order (take l.patch-index l.patches)) l.going.items
