use Rattle.camp_questions.proofs.Words.{◌≡◌, [], take, fold, with_range}
use Rattle.camp_questions.proofs.mark_hunks.merged_ranges.Given as goal

abbrev pub invariant-loop-range : goal.invariant-loop-range
invariant-loop-range l = l.places.items ≡ fold with_range [] (take l.range-index l.ranges)
