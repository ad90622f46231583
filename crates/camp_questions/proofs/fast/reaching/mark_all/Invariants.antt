use Rattle.camp_questions.proofs.Words.{◌≡◌, take, marked_in_both}
use Rattle.camp_questions.proofs.fast.reaching.mark_all.Given as goal

abbrev pub invariant-loop-at : goal.invariant-loop-at
invariant-loop-at l = l.marks ≡ marked_in_both l.initial.marks (take l.at l.more)
