use Rattle.camp_questions.proofs.Words.{take}
use Rattle.camp_questions.proofs.PatchesBack.{AreAllBack}
use Rattle.camp_questions.proofs.fast.inverting.inverted_patches.Given as goal

abbrev pub invariant-loop-patch : goal.invariant-loop-patch
invariant-loop-patch l = AreAllBack (take l.patch-index l.patch-items) l.back.items
