use Rattle.camp_questions.proofs.Words.{◌≡◌, filter, map, take, at_range, differs_within}
use Rattle.camp_questions.proofs.mark_hunks.sides_at.Given as goal

abbrev pub invariant-loop-at : goal.invariant-loop-at
invariant-loop-at l =
    l.sides.items ≡ map (at_range l.lines l.place) (filter (differs_within l.lines l.place) (take l.at l.versions))
