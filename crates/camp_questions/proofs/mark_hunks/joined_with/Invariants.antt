use Rattle.camp_questions.proofs.Words.{◌≡◌, filter, take, fold, union_of, touch}
use Rattle.camp_questions.proofs.mark_hunks.joined_with.Given as goal

abbrev pub invariant-loop-place : goal.invariant-loop-place
invariant-loop-place l = l.whole ≡ fold union_of l.range (filter (touch l.range) (take l.place-index l.places))
