-- Trees after one change of their entries, and the paths at which they may differ from an earlier tree.
use Rattle.std.specs.Prelude.{◌≡◌, ℕ, true, ◌⊎◌, List, [], ◌∷◌, Option, None, Some, Result, Ok, Err}
use Rattle.std.specs.FinMap.{get, remove}
use Rattle.camp_base.specs.Bytes.{is_path}
use Rattle.camp_base.specs.Trees.{Files, Lines}
use Rattle.camp_coding.specs.GitPaths.{AreBytes, escaped_path}
use Rattle.camp_coding.specs.GitTrees.{EncodesTree, GitEntries, place_path}
use Rattle.camp_coding.specs.declared.attributes.Attribute.TheVariants.{ModeLine, LacksNewline, Wrapped}
use Rattle.camp_coding.specs.declared.trees.EncodeFault.{EncodeFault}
use Rattle.camp_import.specs.CommitTrees.{CanBeHeld, CannotSet, ChangesEntries, EmptiesFolder, has_prefix}
use Rattle.camp_import.specs.TreeChanges.{DifferWithin, HasPath}
use Rattle.camp_import.specs.declared.commit_trees.ChangedTree.{ChangedTree}
use Rattle.camp_import.specs.declared.entry_changes.EntryChange.{EntryChange}

-- a set of paths
abbrev pub PathSet : Type 0
PathSet = List (List ℕ × Unit {0})

-- a set has all paths of another one
abbrev pub HasAllOf : PathSet → PathSet → Type 0
HasAllOf old new = (path : List ℕ) → HasPath old path → HasPath new path

-- a set has all paths of another one and, if these bytes are a path, that path
abbrev pub AddsPlace : List ℕ → PathSet → PathSet → Type 0
AddsPlace camp_path old new = HasAllOf old new × (is_path camp_path ≡ true → HasPath new camp_path)

-- a set has all paths of another one, and the paths in camp of a path of git and of its attributes
pub record AddsPlaces (path : List ℕ) (old new : PathSet) : Type 0 where
  pub all : HasAllOf old new
  pub own : is_path (place_path None path) ≡ true → HasPath new (place_path None path)
  pub mode : is_path (place_path (Some ModeLine) path) ≡ true → HasPath new (place_path (Some ModeLine) path)
  pub newline : is_path (place_path (Some LacksNewline) path) ≡ true → HasPath new (place_path (Some LacksNewline) path)
  pub wrapped : is_path (place_path (Some Wrapped) path) ≡ true → HasPath new (place_path (Some Wrapped) path)

-- a tree is the code of a git tree, and differs from an earlier tree only at these paths
pub record StepsTo (git : GitEntries) (old new : ChangedTree) : Type 0 where
  pub encodes : EncodesTree git new.tree
  pub differs : (first : Files) → DifferWithin old.paths first old.tree → DifferWithin new.paths first new.tree

-- a tree after one change of its entries
pub record StepsBy (change : EntryChange) (git : GitEntries) (old new : ChangedTree) : Type 0 where
  pub after : GitEntries
  pub changes : ChangesEntries change git after
  pub steps : StepsTo after old new

-- the result of a change of entries: the tree after it, or why camp can't store that tree
abbrev pub StepsOr : EntryChange → ChangedTree → Result ChangedTree EncodeFault → Type 0
StepsOr change old (Ok new) = CanBeHeld change × ((git : GitEntries) → EncodesTree git old.tree → StepsBy change git old new)
StepsOr change old (Err why) = CannotSet why (Some change)

-- the new tree has no entry at a path
abbrev pub RemovesEntry : List ℕ → ChangedTree → ChangedTree → Type 0
RemovesEntry path old new = (git : GitEntries) → EncodesTree git old.tree → StepsTo (remove git path) old new

-- the new tree has no entry in a folder
pub record RemovesFolder (folder : List ℕ) (git : GitEntries) (old new : ChangedTree) : Type 0 where
  pub after : GitEntries
  pub empties : EmptiesFolder folder git after
  pub steps : StepsTo after old new

-- if a path of camp stores an entry of git whose path has a prefix, the new tree has no such entry; all others are
-- unchanged
pub record RemovesIfBelow (camp_path prefix : List ℕ) (git : GitEntries) (old new : ChangedTree) : Type 0 where
  pub after : GitEntries
  pub gone : (path : List ℕ) → AreBytes path → escaped_path path ≡ camp_path → has_prefix prefix path ≡ true → get after path ≡ None
  pub stays : (path : List ℕ) → (get after path ≡ get git path) ⊎ ((get after path ≡ None) × (has_prefix prefix path ≡ true))
  pub steps : StepsTo after old new

-- a set has the paths of another set and, unless the other tree has the same file at `path`, also this path
pub record AddsOther (path : List ℕ) (lines : Lines) (other : Files) (old new : PathSet) : Type 0 where
  pub all : HasAllOf old new
  pub own : HasPath new path ⊎ (get other path ≡ Some lines)
  pub only : (another : List ℕ) → HasPath new another → HasPath old another ⊎ ((another ≡ path) × ¬ (get other path ≡ Some lines))

-- a tree has a file at a path that a second one does not have
pub record HasOther (tree other : Files) (path : List ℕ) : Type 0 where
  pub lines : Lines
  pub found : get tree path ≡ Some lines
  pub differs : ¬ (get other path ≡ Some lines)

-- a set has the paths of another one, and the path of each file that one tree has and a second one does not have
pub record AddsDifferences (tree other : Files) (old new : PathSet) : Type 0 where
  pub all : HasAllOf old new
  pub each : (path : List ℕ) (lines : Lines) → get tree path ≡ Some lines → HasPath new path ⊎ (get other path ≡ Some lines)
  pub only : (path : List ℕ) → HasPath new path → HasPath old path ⊎ HasOther tree other path
