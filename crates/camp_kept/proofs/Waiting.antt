-- The calls of a commit, counted.
use Rattle.std.proofs.Common.{◌≡◌, ◌≤◌, ◌+◌, ◌-◌, ℕ, List, length, take, drop, ap, arith, length-drop}
use Rattle.std.proofs.lemmas.List.{take_all}
use Rattle.camp_call.specs.declared.calls.Call.{Call}

-- a history has the first k calls, and those of the slice after them
pub rest_count : (read : List (ℕ × Call)) (k : ℕ) → k ≤ length read → length read ≡ k + length (take (length read - k) (drop k read))
rest_count read k few =
    let rest = length-drop k read in
    let same = ap (λ (l : List (ℕ × Call)). length l) (take_all (length read - k) (drop k read) (omega (arith, rest))) in
    omega (arith, few, rest, same)
