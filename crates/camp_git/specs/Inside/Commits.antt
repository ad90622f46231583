-- The commit of a patch: its position in the history, and its changes at some paths.
use Rattle.std.specs.Prelude.{◌≡◌, ℕ, zero, suc, not, ◌&&◌, if◌then◌else◌, List, [], ◌∷◌, ◌++◌, map, Option, None, Some}
use Rattle.std.specs.Ordering.{nat_cmp}
use Rattle.std.specs.Cmp.Lexicographic.{slice_cmp}
use Rattle.std.specs.FinMap.{contains_key, entries, get}
use Rattle.std.specs.List.{AllByRecursion, flat_map}
use Rattle.camp_share.specs.Maps.{map_of}
use Rattle.camp_base.specs.Trees.{Files, Lines}
use Rattle.camp_git.specs.FastImport.{Commit, FileChange, FileDelete, FileModify, HasGoodPath, IsGood, change_command, commit_text, line}
use Rattle.camp_git.specs.Exports.{content_of, reference_of}
use Rattle.camp_git.specs.declared.commits.Place.{Place}

-- the mark of the parent; 0 if there is none
abbrev pub from_of : ℕ → Option ℕ
from_of zero = None
from_of (suc mark) = Some (suc mark)

-- a commit with its changes
abbrev pub commit_at : Place → List FileChange → Commit
commit_at place changes = record {
  reference = reference_of place.branch;
  mark = place.mark;
  message = line place.name;
  from = from_of place.from;
  changes = changes;
}

-- the deletion of the file at a path, if one tree has it and the next one does not
abbrev pub deletion_of : Files → Files → List ℕ → List FileChange
deletion_of old new path =
    if contains_key old path && not (contains_key new path) then FileDelete path ∷ [] else []

-- the change that sets a file to these lines, if there are any
abbrev pub modified_to : List ℕ → Option Lines → List FileChange
modified_to path None = []
modified_to path (Some lines) = FileModify path (content_of lines) ∷ []

-- the change that sets the file at a path to its lines in a tree, if it exists there
abbrev pub modification_of : Files → List ℕ → List FileChange
modification_of new path = modified_to path (get new path)

-- the changes from one tree to another that differs only at these paths: deletions first, then the files that are set
abbrev pub differences_of : Files → Files → List (List ℕ) → List FileChange
differences_of old new paths = flat_map (deletion_of old new) paths ++ flat_map (modification_of new) paths

-- the paths of a set, in order
abbrev pub paths_in : List (List ℕ × Unit {0}) → List (List ℕ)
paths_in set = map (λ entry. entry.0) (entries (map_of (slice_cmp nat_cmp) set))

-- a text is extended by the commands of changes whose paths can be named
abbrev pub GrowsBy : List ℕ → List FileChange → List ℕ → Type 0
GrowsBy old changes new = (new ≡ old ++ flat_map change_command changes) × AllByRecursion HasGoodPath changes

-- a text is extended by the command of a commit that can be written
abbrev pub IsWritten : List ℕ → Commit → List ℕ → Type 0
IsWritten old commit new = (new ≡ old ++ commit_text commit) × IsGood commit
