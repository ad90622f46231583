use Rattle.camp_questions.proofs.Words.{ℕ, ◌+◌, ◌<◌, ◌≤◌, get_or, length, Needed}
use Rattle.camp_questions.proofs.nodes.end_at_own_index.Given as goal

abbrev pub invariant-loop-at : goal.invariant-loop-at
invariant-loop-at l =
    (k : ℕ) (d : Needed) → k < l.at → length (get_or l.all k d).needs.items ≤ k + 1
