use Rattle.camp_questions.proofs.Words.{◌≡◌, take, changes_of}
use Rattle.camp_questions.proofs.showing.changes_of.Given as goal

abbrev pub invariant-loop-catch : goal.invariant-loop-catch
invariant-loop-catch l = l.changes.items ≡ changes_of (take l.catch-index l.catches)
