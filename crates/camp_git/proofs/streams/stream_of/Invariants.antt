use Rattle.camp_git.proofs.Words.{◌-◌, ◌≤◌, length}
use Rattle.camp_git.proofs.Streaming.{Progress}
use Rattle.camp_git.proofs.streams.stream_of.Given as goal

abbrev pub invariant-loop-at : goal.invariant-loop-at
invariant-loop-at l = record {
  told : Progress l.name l.branch l.at l.text.items l.tree;
  within : l.at ≤ length l.branch;
}

abbrev pub decreases-loop-at : goal.decreases-loop-at
decreases-loop-at l = length l.branch - l.at
