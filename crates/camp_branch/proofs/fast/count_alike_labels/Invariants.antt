use Rattle.std.proofs.Common.{◌≡◌, ◌+◌, ◌≤◌, length}
use Rattle.camp_branch.proofs.fast.count_alike_labels.Given as goal

abbrev pub invariant-loop-catch : goal.invariant-loop-catch
invariant-loop-catch l = record {
  behind : l.known + l.seen + length l.catch-iterator ≡ length l.from;
  behind_too : l.known + l.seen + length l.others ≡ length l.to;
  fewer : l.alike ≤ l.seen;
}
