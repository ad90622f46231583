-- The tree of a commit: that of its first parent, with the changes of its entries.
use Rattle.std.specs.Prelude.{◌≡◌, ℕ, ◌≤◌, true, false, Bool, List, [], ◌∷◌, ◌++◌, length, take, slice_get, Option, None, Some, Result, Ok, Err, bytes_eq}
use Rattle.std.specs.FinMap.{empty, get, insert, remove}
use Rattle.std.specs.List.{AllByRecursion}
use Rattle.camp_base.specs.Signs.{slash}
use Rattle.camp_base.specs.Trees.{Files}
use Rattle.camp_coding.specs.GitPaths.{AreBytes}
use Rattle.camp_coding.specs.Contents.{stored_lines}
use Rattle.camp_coding.specs.GitTrees.{EncodesTree, GitEntries, GitFile, HasCampPaths, PutsFile, most_lines}
use Rattle.camp_coding.specs.declared.trees.EncodeFault.{EncodeFault}
use Rattle.camp_coding.specs.declared.trees.EncodeFault.TheVariants.{BadPath, TooManyLines, Memory}
use Rattle.camp_import.specs.TreeChanges.{DifferWithin}
use Rattle.camp_import.specs.declared.commit_trees.ChangedTree.{ChangedTree}
use Rattle.camp_import.specs.declared.commit_trees.EntryFault.{EntryFault}
use Rattle.camp_import.specs.declared.entry_changes.EntryChange.{EntryChange}
use Rattle.camp_import.specs.declared.entry_changes.EntryChange.TheVariants.{Set, Delete, DeleteAll}

-- whether bytes begin with a prefix
abbrev pub has_prefix : List ℕ → List ℕ → Bool
has_prefix prefix bytes = bytes_eq prefix (take (length prefix) bytes)

-- the path of a folder, followed by `/`
abbrev pub folder_prefix : List ℕ → List ℕ
folder_prefix folder = folder ++ slash ∷ []

-- whether a path is in a folder, at any depth
abbrev pub is_in_folder : List ℕ → List ℕ → Bool
is_in_folder folder path = has_prefix (folder_prefix folder) path

-- the new tree has no entry in a folder, and all others are unchanged
pub record EmptiesFolder (folder : List ℕ) (old new : GitEntries) : Type 0 where
  pub gone : (path : List ℕ) → AreBytes path → is_in_folder folder path ≡ true → get new path ≡ None
  pub stays : (path : List ℕ) → is_in_folder folder path ≡ false → get new path ≡ get old path

-- the new tree has no entry at a path or, if there was none, none in the folder of this path
abbrev pub DeletesEntry : List ℕ → Option GitFile → GitEntries → GitEntries → Type 0
DeletesEntry path None old new = EmptiesFolder path old new
DeletesEntry path (Some file) old new = new ≡ remove old path

-- a change of entries leads from one git tree to another
abbrev pub ChangesEntries : EntryChange → GitEntries → GitEntries → Type 0
ChangesEntries (Set mode content path) old new = new ≡ insert old path.items (record { mode = mode; content = content.items })
ChangesEntries (Delete path) old new = DeletesEntry path.items (get old path.items) old new
ChangesEntries DeleteAll old new = new ≡ empty

-- changes of entries lead from one git tree to another, each applied to the tree that those before it give
abbrev pub ChangeThrough : List EntryChange → GitEntries → GitEntries → Type 0
ChangeThrough [] old new = old ≡ new
ChangeThrough (change ∷ changes) old new =
    (between : GitEntries) × ChangesEntries change old between × ChangeThrough changes between new

-- a camp tree is the code of a git tree that changes of entries lead to, and differs from another camp tree only at
-- these paths
pub record EncodesChanged (changes : List EntryChange) (git : GitEntries) (old : Files) (changed : ChangedTree) : Type 0 where
  pub after : GitEntries
  pub leads : ChangeThrough changes git after
  pub encodes : EncodesTree after changed.tree
  pub differs : DifferWithin changed.paths old changed.tree

-- camp can't store the tree after a change: it sets an entry that can't be set
abbrev pub CannotSet : EncodeFault → Option EntryChange → Type 0
CannotSet Memory change = Unit {0}
CannotSet why None = ⊥
CannotSet why (Some (Set mode content path)) = PutsFile path.items (record { mode = mode; content = content.items }) empty (Err why)
CannotSet why (Some (Delete path)) = ⊥
CannotSet why (Some DeleteAll) = ⊥

-- camp can store the tree after a change: it sets no entry, or one that can be set
abbrev pub CanBeHeld : EntryChange → Type 0
CanBeHeld (Set mode content path) =
    HasCampPaths path.items (record { mode = mode; content = content.items }) × (length (stored_lines content.items) ≤ most_lines)
CanBeHeld (Delete path) = Unit {0}
CanBeHeld DeleteAll = Unit {0}

-- Ok: camp can store the tree after each change; if the old tree is the code of a git tree, the new one is the code of
-- the tree that the changes lead to. A fault is of the first change after which camp can't store the tree
abbrev pub GivesTree : Files → List EntryChange → Result ChangedTree EntryFault → Type 0
GivesTree old changes (Ok changed) =
    AllByRecursion CanBeHeld changes × ((git : GitEntries) → EncodesTree git old → EncodesChanged changes git old changed)
GivesTree old changes (Err fault) =
    AllByRecursion CanBeHeld (take fault.index changes) × CannotSet fault.why (slice_get changes fault.index)
