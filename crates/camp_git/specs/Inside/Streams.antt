-- How the stream of a branch grows commit by commit, and how it ends if git can't store a tree.
use Rattle.std.specs.Prelude.{◌≡◌, ℕ, true, List, Result, Ok, Err, Vec}
use Rattle.std.specs.declared.alloc.Global.{Global}
use Rattle.std.specs.FinMap.{contains_key}
use Rattle.camp_base.specs.Trees.{Files}
use Rattle.camp_catch.specs.declared.catches.Catch.{Catch}
use Rattle.camp_git.specs.Exports.{IsExport, IsUnheld, HasFilesOf}
use Rattle.camp_git.specs.FastImport.{FileChange, GitTree, changed_by}
use Rattle.camp_git.specs.Holding.{CanHold, CannotHold}
use Rattle.camp_git.specs.Inside.Commits.{IsWritten, commit_at}
use Rattle.camp_git.specs.declared.commits.Place.{Place}
use Rattle.camp_git.specs.declared.faults.Unexported.{Unexported}
use Rattle.camp_git.specs.declared.faults.Unexported.TheVariants.{NoBranch, Unheld, Memory, Write}

-- a commit was written whose changes lead from the old tree to the new one, which git can store
abbrev pub AddsCommit : Place → Files → Files → List ℕ → List ℕ → Type 0
AddsCommit place old new before after =
    (changes : List FileChange) × IsWritten before (commit_at place changes) after
    × CanHold new × ((git : GitTree) → HasFilesOf git old → HasFilesOf (changed_by git changes) new)

-- how making a stream ends: completely, at a file because of which git can't store a tree, or because memory ran out
abbrev pub StreamEnds : {A : Type 0} → (A → Type 0) → List ℕ → Files → Result A Unexported → Type 0
StreamEnds Good name tree (Ok done) = Good done
StreamEnds Good name tree (Err (Unheld patch path)) =
    (patch ≡ name) × (contains_key tree path ≡ true) × CannotHold tree path
StreamEnds Good name tree (Err Memory) = Unit {0}
StreamEnds Good name tree (Err (NoBranch missing)) = ⊥
StreamEnds Good name tree (Err (Write error)) = ⊥

-- the stream of a branch, or the first patch after which git can't store its tree
abbrev pub Streams : List ℕ → List Catch → Result (Vec ℕ Global) Unexported → Type 0
Streams name branch (Ok text) = IsExport name branch text.items
Streams name branch (Err (Unheld patch path)) = IsUnheld branch patch path
Streams name branch (Err Memory) = Unit {0}
Streams name branch (Err (NoBranch missing)) = ⊥
Streams name branch (Err (Write error)) = ⊥
