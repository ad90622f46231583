use Rattle.camp_questions.proofs.Words.{◌≡◌, ◌++◌, take}
use Rattle.camp_questions.proofs.sides.append_all.Given as goal

abbrev pub invariant-loop-p : goal.invariant-loop-p
invariant-loop-p l = l.list ≡ l.initial.list ++ take l.p-index l.more
