-- Whole git trees, encoded entry by entry from the empty tree, and decoded.
use Rattle.std.specs.Prelude.{◌≡◌, ◌↔◌, ℕ, List, [], ◌∷◌, Some, Ok}
use Rattle.std.specs.FinMap.{empty, get, insert}
use Rattle.std.specs.List.{AllByRecursion}
use Rattle.camp_coding.specs.GitPaths.{AreBytes}
use Rattle.camp_coding.specs.GitTrees.{DecodesFile, GitEntries, GitFile}
use Rattle.camp_import.specs.CommitTrees.{GivesTree}
use Rattle.camp_import.specs.declared.commit_trees.ChangedTree.{ChangedTree}
use Rattle.camp_import.specs.declared.entry_changes.EntryChange.{EntryChange}
use Rattle.camp_import.specs.declared.entry_changes.EntryChange.TheVariants.{Set, Delete, DeleteAll}

-- a change sets an entry
abbrev pub SetsEntry : EntryChange → Type 0
SetsEntry (Set mode content path) = Unit {0}
SetsEntry (Delete path) = ⊥
SetsEntry DeleteAll = ⊥

-- a git tree with the entry that a change sets
abbrev pub with_entry : GitEntries → EntryChange → GitEntries
with_entry git (Set mode content path) = insert git path.items (record { mode = mode; content = content.items })
with_entry git (Delete path) = git
with_entry git DeleteAll = git

-- a git tree with the entries that changes set
abbrev pub with_entries : GitEntries → List EntryChange → GitEntries
with_entries git [] = git
with_entries git (change ∷ changes) = with_entries (with_entry git change) changes

-- decoding the tree that was made of entries gives these entries, and no others
abbrev pub WholeTreesComeBack : Type 0
WholeTreesComeBack =
    (changes : List EntryChange) (changed : ChangedTree) → AllByRecursion SetsEntry changes
    → GivesTree empty changes (Ok changed) → (path : List ℕ) → AreBytes path → (file : GitFile)
    → DecodesFile changed.tree path file ↔ (get (with_entries empty changes) path ≡ Some file)
