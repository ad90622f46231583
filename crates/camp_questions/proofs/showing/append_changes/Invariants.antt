use Rattle.camp_questions.proofs.Words.{◌≡◌, ◌++◌, take, changes_in}
use Rattle.camp_questions.proofs.showing.append_changes.Given as goal

abbrev pub invariant-loop-p : goal.invariant-loop-p
invariant-loop-p l = l.changes.items ≡ l.initial.changes.items ++ changes_in (take l.p-index l.effect)
