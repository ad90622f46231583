use Rattle.camp_questions.proofs.Words.{◌-◌, length}
use Rattle.camp_questions.proofs.PatchesOfLists.{AreFound}
use Rattle.camp_questions.proofs.fast.patch_catches.by_patch.Given as goal

abbrev pub invariant-loop-start : goal.invariant-loop-start
invariant-loop-start l = AreFound l.list l.start l.patches.items

abbrev pub decreases-loop-start : goal.decreases-loop-start
decreases-loop-start l = length l.list - l.start
