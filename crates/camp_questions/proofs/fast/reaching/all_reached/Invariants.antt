use Rattle.camp_questions.proofs.Words.{◌≡◌, length, List, Catch, names_in_order, IsInverted}
use Rattle.camp_questions.proofs.ReachedPatches.{AreKnownSoFar}
use Rattle.camp_questions.proofs.fast.reaching.all_reached.Given as goal

abbrev pub invariant-loop-patch : goal.invariant-loop-patch
invariant-loop-patch l = record {
  count : length l.all.items ≡ l.patch-index;
  known : (branch : List Catch) → IsInverted branch l.patches → AreKnownSoFar branch (names_in_order l.patches) l.patch-index l.all.items;
}
