use Rattle.camp_questions.proofs.Words.{◌≡◌, ◌+◌, drop, until_next}
use Rattle.camp_questions.proofs.fast.patch_catches.end_of_patch.Given as goal

abbrev pub invariant-loop-at : goal.invariant-loop-at
invariant-loop-at l =
    l.start + 1 + until_next (drop (l.start + 1) l.list) ≡ l.at + until_next (drop l.at l.list)
