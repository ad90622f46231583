use Rattle.camp_git.proofs.Words.{◌≡◌, ◌+◌, drop, length}
use Rattle.camp_catch.specs.Laws.{keys_of}
use Rattle.camp_git.specs.Inside.Steps.{led_by}
use Rattle.camp_git.proofs.steps.patch_end.Given as goal

abbrev pub invariant-loop-catch : goal.invariant-loop-catch
invariant-loop-catch l = record {
  counted : l.end + led_by (keys_of l.catch-iterator) ≡ l.from + led_by (keys_of (drop l.from l.catches));
  behind : l.end + length l.catch-iterator ≡ length l.catches;
}
