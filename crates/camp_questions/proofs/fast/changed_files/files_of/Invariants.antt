use Rattle.camp_questions.proofs.Words.{take, AreFilesOf}
use Rattle.camp_questions.proofs.fast.changed_files.files_of.Given as goal

abbrev pub invariant-loop-patch : goal.invariant-loop-patch
invariant-loop-patch l = AreFilesOf (take l.patch-index l.patches) l.files.items
