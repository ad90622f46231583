use Rattle.camp_questions.proofs.Words.{◌≡◌, ℕ, ◌<◌, ◌≤◌, false, needs_index}
use Rattle.camp_questions.proofs.nodes.end_of_needed.Given as goal

abbrev pub invariant-loop-end : goal.invariant-loop-end
invariant-loop-end l = record {
  within : l.end ≤ l.count;
  none : (k : ℕ) → l.end ≤ k → k < l.count → needs_index l.marks l.at k ≡ false;
}

abbrev pub decreases-loop-end : goal.decreases-loop-end
decreases-loop-end l = l.end
