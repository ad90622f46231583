use Rattle.camp_questions.proofs.Words.{take}
use Rattle.camp_questions.proofs.PatchesBack.{AreInvertedSoFar}
use Rattle.camp_questions.proofs.fast.inverting.inverses.Given as goal

abbrev pub invariant-loop-catch : goal.invariant-loop-catch
invariant-loop-catch l = AreInvertedSoFar (take l.catch-index l.catches) l.back.items
