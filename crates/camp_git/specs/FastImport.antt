-- The part of the language of `git fast-import` in which an export is written, as the manual of that command defines
-- it.
use Rattle.std.specs.Prelude.{◌≡◌, ℕ, Bool, true, false, ◌||◌, ◌==◌, ◌<◌, if◌then◌else◌, List, [], ◌∷◌, ◌++◌, length, codes, bytes_eq, nat_eq, Option, None, Some, is_some}
use Rattle.std.specs.List.{AllByRecursion, flat_map, list_all, list_any, starts_with}
use Rattle.std.specs.Fmt.{decimal}
use Rattle.camp_base.specs.Bytes.{is_path_part, path_parts}
use Rattle.camp_base.specs.Signs.{backslash, newline, quote, slash}

-- a change to the files of a commit: sets a file to this content, deletes a file or a folder, or deletes everything
pub data FileChange : Type 0 where
  FileModify : (path content : List ℕ) → FileChange
  FileDelete : (path : List ℕ) → FileChange
  FileDeleteAll : FileChange

-- a commit: its branch, its mark, its message, the mark of its parent if one is given, and its changes
pub record Commit : Type 0 where
  pub reference : List ℕ
  pub mark : ℕ
  pub message : List ℕ
  pub from : Option ℕ
  pub changes : List FileChange

-- a line of a command
abbrev pub line : List ℕ → List ℕ
line text = text ++ newline ∷ []

-- the command of data, with their length in bytes
abbrev pub data_text : List ℕ → List ℕ
data_text bytes = line (codes "data " ++ decimal (length bytes)) ++ line bytes

-- a byte in quotes, as in C: a quote and a backslash come after a backslash
abbrev pub escaped_byte : ℕ → List ℕ
escaped_byte byte = if byte == quote || byte == backslash then backslash ∷ byte ∷ [] else byte ∷ []

-- bytes in quotes as in C
abbrev pub escaped : List ℕ → List ℕ
escaped bytes = flat_map escaped_byte bytes

-- a path begins with a quote
abbrev pub begins_with_quote : List ℕ → Bool
begins_with_quote [] = false
begins_with_quote (byte ∷ bytes) = byte == quote

-- a path in a command: in quotes if it begins with a quote, else unchanged
abbrev pub path_text : List ℕ → List ℕ
path_text path = if begins_with_quote path then quote ∷ escaped path ++ quote ∷ [] else path

-- the command of a change; a file that is set is a regular one, and its data follow
abbrev pub change_command : FileChange → List ℕ
change_command (FileModify path content) = line (codes "M 100644 inline " ++ path_text path) ++ data_text content
change_command (FileDelete path) = line (codes "D " ++ path_text path)
change_command FileDeleteAll = line (codes "deleteall")

-- the parent in the command of a commit, by its mark
abbrev pub from_text : Option ℕ → List ℕ
from_text None = []
from_text (Some mark) = line (codes "from :" ++ decimal mark)

-- the command of a commit without its changes; the committer is camp, at the start of 1970
abbrev pub head_text : Commit → List ℕ
head_text commit =
    line (codes "commit " ++ commit.reference) ++ line (codes "mark :" ++ decimal commit.mark)
    ++ line (codes "committer camp <camp> 0 +0000") ++ data_text commit.message ++ from_text commit.from

-- the command of a commit
abbrev pub commit_text : Commit → List ℕ
commit_text commit = head_text commit ++ flat_map change_command commit.changes

-- no byte of a text is a line feed
abbrev pub IsOneLine : List ℕ → Type 0
IsOneLine text = list_any (λ byte. byte == newline) text ≡ false

-- a path can be named in a command: none of its components is empty, `.` or `..`, and no byte is a line feed
abbrev pub CanBeNamed : List ℕ → Type 0
CanBeNamed path = (list_all is_path_part (path_parts path) ≡ true) × IsOneLine path

-- the path of a change can be named in a command
abbrev pub HasGoodPath : FileChange → Type 0
HasGoodPath (FileModify path content) = CanBeNamed path
HasGoodPath (FileDelete path) = CanBeNamed path
HasGoodPath FileDeleteAll = Unit {0}

-- a commit can be written: its paths can be named, and no mark is 0
pub record IsGood (commit : Commit) : Type 0 where
  pub reference : IsOneLine commit.reference
  pub mark : 0 < commit.mark
  pub paths : AllByRecursion HasGoodPath commit.changes

-- the files of a tree as git stores them: for each path of a file its content
abbrev pub GitTree : Type 0
GitTree = List ℕ → Option (List ℕ)

-- the tree without a file
abbrev pub no_files : GitTree
no_files path = None

-- a path is in a folder, at any depth
abbrev pub is_inside : List ℕ → List ℕ → Bool
is_inside folder path = starts_with nat_eq path (folder ++ slash ∷ [])

-- the tree after a change. A file that is set replaces the folder at its path, and each file whose path is a folder of
-- its path; a deleted path goes with all files inside it
abbrev pub git_tree_after : GitTree → FileChange → GitTree
git_tree_after tree (FileModify path content) other =
    if bytes_eq other path then Some content
    else (if is_inside path other || is_inside other path then None else tree other)
git_tree_after tree (FileDelete path) other = if bytes_eq other path || is_inside path other then None else tree other
git_tree_after tree FileDeleteAll other = None

-- the tree after changes, one after the other
abbrev pub changed_by : GitTree → List FileChange → GitTree
changed_by tree [] = tree
changed_by tree (change ∷ changes) = changed_by (git_tree_after tree change) changes

-- a commit as git stores it: its branch, its mark, its message, the mark of its parent, and its tree
pub record Kept : Type 0 where
  pub reference : List ℕ
  pub mark : ℕ
  pub message : List ℕ
  pub parent : Option ℕ
  pub tree : GitTree

-- the commit with this mark; of several stored ones, the newest
abbrev pub commit_at_mark : List Kept → ℕ → Option Kept
commit_at_mark [] mark = None
commit_at_mark (kept ∷ older) mark = if kept.mark == mark then Some kept else commit_at_mark older mark

-- the newest commit of a branch
abbrev pub tip_of : List Kept → List ℕ → Option Kept
tip_of [] reference = None
tip_of (kept ∷ older) reference = if bytes_eq kept.reference reference then Some kept else tip_of older reference

-- the parent of a commit: the one of the given mark, or else the newest commit of its branch
abbrev pub parent_of : List Kept → Commit → Option ℕ → Option Kept
parent_of kept commit None = tip_of kept commit.reference
parent_of kept commit (Some mark) = commit_at_mark kept mark

-- the tree of a commit before its changes, and the mark of its parent
abbrev pub files_before : Option Kept → GitTree
files_before None = no_files
files_before (Some kept) = kept.tree

abbrev pub mark_of : Option Kept → Option ℕ
mark_of None = None
mark_of (Some kept) = Some kept.mark

-- a commit as git stores it, given the commits that are stored before it
abbrev pub keep : List Kept → Commit → Kept
keep kept commit =
    let parent = parent_of kept commit commit.from in
    record {
      reference = commit.reference;
      mark = commit.mark;
      message = commit.message;
      parent = mark_of parent;
      tree = changed_by (files_before parent) commit.changes;
    }

-- commits as git stores them, one after the other
abbrev pub keep_all : List Kept → List Commit → List Kept
keep_all kept [] = []
keep_all kept (commit ∷ commits) = keep kept commit ∷ keep_all (keep kept commit ∷ kept) commits

-- if a commit names a parent, its mark is that of an earlier commit
abbrev pub IsFromKnown : List Kept → Option ℕ → Type 0
IsFromKnown kept None = Unit {0}
IsFromKnown kept (Some mark) = is_some (commit_at_mark kept mark) ≡ true

-- the parents that commits name, one after the other, are earlier commits
abbrev pub AreFromKnown : List Kept → List Commit → Type 0
AreFromKnown kept [] = Unit {0}
AreFromKnown kept (commit ∷ commits) =
    IsFromKnown kept commit.from × AreFromKnown (keep kept commit ∷ kept) commits

-- a text reads as these commits: it is their commands, in order; each commit can be written, and its parent comes
-- before it
pub record ReadsAsCommits (text : List ℕ) (commits : List Commit) : Type 0 where
  pub is : text ≡ flat_map commit_text commits
  pub good : AllByRecursion IsGood commits
  pub known : AreFromKnown [] commits
