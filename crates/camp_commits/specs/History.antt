-- The git trees of commits, and the camp trees that are their codes.
use Rattle.std.specs.Prelude.{ℕ, List, Option, None, Some}
use Rattle.std.specs.Ordering.{nat_cmp}
use Rattle.std.specs.Cmp.Lexicographic.{slice_cmp}
use Rattle.std.specs.FinMap.{FinMap, empty, get, insert}
use Rattle.camp_base.specs.Trees.{Files}
use Rattle.camp_coding.specs.GitTrees.{EncodesTree, GitEntries}
use Rattle.camp_import.specs.CommitTrees.{ChangeThrough}
use Rattle.camp_import.specs.TreeChanges.{DifferWithin}
use Rattle.camp_import.specs.declared.entry_changes.EntryChange.{EntryChange}
use Rattle.camp_stream.specs.CommandValues.{CommitValue}
use Rattle.camp_commits.specs.Applying.{MakesCommit, tree_of_commit}
use Rattle.camp_commits.specs.Objects.{CommitTrees, Objects}
use Rattle.camp_commits.specs.declared.commits.TreeCommit.{TreeCommit}

-- the git trees of commits, by their ids
abbrev pub GitTrees : Type 0
GitTrees = FinMap (slice_cmp nat_cmp) GitEntries

-- a git tree that was found, else the empty one
abbrev pub git_tree_or_empty : Option GitEntries → GitEntries
git_tree_or_empty None = empty
git_tree_or_empty (Some tree) = tree

-- the git tree of a commit; the empty tree for none
abbrev pub git_tree_of_commit : GitTrees → Option (List ℕ) → GitEntries
git_tree_of_commit trees None = empty
git_tree_of_commit trees (Some id) = git_tree_or_empty (get trees id)

-- a camp tree is the code of a git tree, or neither is there
abbrev pub EncodesFound : Option GitEntries → Option Files → Type 0
EncodesFound None None = Unit {0}
EncodesFound None (Some files) = ⊥
EncodesFound (Some git) None = ⊥
EncodesFound (Some git) (Some files) = EncodesTree git files

-- the tree of each commit is the code of its git tree
abbrev pub EncodesTrees : GitTrees → CommitTrees → Type 0
EncodesTrees git trees = (id : List ℕ) → EncodesFound (get git id) (get trees id)

-- the tree of a commit is the code of the git tree of its first parent after the commit's changes; it differs from that
-- parent's tree only at the paths of the commit; and the trees of all commits are still codes of git trees
pub record FollowsChanges (git : GitTrees) (changes : List EntryChange) (objects : Objects) (made : TreeCommit) (new : Objects)
    : Type 0 where
  pub after : GitEntries
  pub leads : ChangeThrough changes (git_tree_of_commit git made.first) after
  pub encodes : EncodesTree after made.changed.tree
  pub differs : DifferWithin made.changed.paths (tree_of_commit objects.trees made.first) made.changed.tree
  pub trees : EncodesTrees (insert git made.id after) new.trees

-- if the tree of each commit so far is the code of its git tree, so is the tree of the next commit
abbrev pub CommitTreesFollow : Type 0
CommitTreesFollow =
    (git : GitTrees) (objects new : Objects) (commit : CommitValue) (made : TreeCommit)
    → EncodesTrees git objects.trees → (makes : MakesCommit objects commit made new)
    → FollowsChanges git makes.changes objects made new
