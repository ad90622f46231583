use Rattle.camp_questions.proofs.Words.{◌≡◌, ◌++◌, take}
use Rattle.camp_questions.proofs.fast.patch_catches.append.Given as goal

abbrev pub invariant-loop-catch : goal.invariant-loop-catch
invariant-loop-catch l = l.list.items ≡ l.initial.list.items ++ take l.catch-index l.catches
