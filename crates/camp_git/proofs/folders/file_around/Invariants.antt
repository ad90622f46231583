use Rattle.camp_git.proofs.Words.{◌≡◌, ◌<◌, ℕ, List, true, false, length, contains_key}
use Rattle.camp_git.specs.FastImport.{is_inside}
use Rattle.camp_git.proofs.folders.file_around.Given as goal

abbrev pub invariant-loop-at : goal.invariant-loop-at
invariant-loop-at l =
    (file : List ℕ) → length file < l.at → contains_key l.tree file ≡ true → is_inside file l.path ≡ false
