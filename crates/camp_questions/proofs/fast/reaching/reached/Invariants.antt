use Rattle.camp_questions.proofs.Words.{◌≡◌, ◌≤◌, ◌+◌, length, List, Catch, names_in_order, HasMarkedFiles, AreKnown, AreMarkedBelow, IsInverted}
use Rattle.camp_questions.proofs.ReachedPatches.{ReachesTo}
use Rattle.camp_questions.proofs.fast.reaching.reached.Given as goal

abbrev pub invariant-loop-all_below : goal.invariant-loop-all_below
invariant-loop-all_below l = record {
  within : l.place ≤ length l.known;
  long : length l.marks.items ≡ length l.known + 1;
  below : AreMarkedBelow l.marks.items l.all_below;
  going : HasMarkedFiles l.going;
  reaches : (branch : List Catch) → IsInverted branch l.patches → AreKnown branch (names_in_order l.patches) l.known → ReachesTo branch l.patches (length l.known) l.marks.items l.place l.going.catches.items;
}

abbrev pub decreases-loop-all_below : goal.decreases-loop-all_below
decreases-loop-all_below l = l.place
