-- The meaning of an export of a branch.
use Rattle.std.specs.Prelude.{◌≡◌, ℕ, ◌+◌, ◌<◌, List, [], ◌∷◌, ◌++◌, codes, option_map, take, Option, None, Some, true, ◌⊎◌}
use Rattle.std.specs.FinMap.{contains_key, get}
use Rattle.std.specs.List.{flat_map}
use Rattle.camp_base.specs.Trees.{Files, Lines}
use Rattle.camp_branch.specs.Branches.{HasPatches, LeadsTo, Patch}
use Rattle.camp_catch.specs.declared.catches.Catch.{Catch}
use Rattle.camp_git.specs.FastImport.{Commit, GitTree, Kept, ReadsAsCommits, keep_all, line}
use Rattle.camp_git.specs.Holding.{CanHold, CannotHold}

-- the content of a file: its lines, each with a line feed at its end
abbrev pub content_of : Lines → List ℕ
content_of lines = flat_map line lines

-- the files that git stores are exactly those of a tree of camp
abbrev pub HasFilesOf : GitTree → Files → Type 0
HasFilesOf git files = (path : List ℕ) → git path ≡ option_map content_of (get files path)

-- the name in git of the branch that is exported
abbrev pub reference_of : List ℕ → List ℕ
reference_of branch = codes "refs/heads/" ++ branch

-- a mark is above 0 and above that of the parent; so no two commits of one history have the same mark
abbrev pub IsNewMark : Option ℕ → ℕ → Type 0
IsNewMark None mark = 0 < mark
IsNewMark (Some parent) mark = parent < mark

-- a commit represents a patch, up to which a branch has these catches: it is on this branch of git, has this parent and
-- a greater mark; its message is the name of the patch and a line feed; and its tree is the one that the catches lead
-- to, which git can store
pub record RepresentsPatch (reference : List ℕ) (parent : Option ℕ) (upto : List Catch) (name : List ℕ) (commit : Kept) : Type 0 where
  pub on : commit.reference ≡ reference
  pub behind : commit.parent ≡ parent
  pub rises : IsNewMark parent commit.mark
  pub message : commit.message ≡ line name
  pub files : Files
  pub leads : LeadsTo upto files
  pub held : CanHold files
  pub tree : HasFilesOf commit.tree files

-- commits represent the patches of a branch after its first catches, each commit the child of the one before it
abbrev pub RepresentEach : List ℕ → List Catch → ℕ → Option ℕ → List Patch → List Kept → Type 0
RepresentEach reference branch count parent [] [] = Unit {0}
RepresentEach reference branch count parent [] (commit ∷ commits) = ⊥
RepresentEach reference branch count parent (patch ∷ patches) [] = ⊥
RepresentEach reference branch count parent (patch ∷ patches) (commit ∷ commits) =
    RepresentsPatch reference parent (take (count + patch.changes) branch) patch.name commit
    × RepresentEach reference branch (count + patch.changes) (Some commit.mark) patches commits

-- a text is an export of a branch: it reads as commits that represent its patches, one for each, in order
pub record IsExport (name : List ℕ) (branch : List Catch) (text : List ℕ) : Type 0 where
  pub patches : List Patch
  pub has : HasPatches branch patches
  pub commits : List Commit
  pub reads : ReadsAsCommits text commits
  pub represents : RepresentEach (reference_of name) branch 0 None patches (keep_all [] commits)

-- the tree that catches lead to has a file at this path that git can't store
pub record IsBad (upto : List Catch) (path : List ℕ) : Type 0 where
  pub files : Files
  pub leads : LeadsTo upto files
  pub stands : contains_key files path ≡ true
  pub unheld : CannotHold files path

-- git can store the tree that catches lead to
pub record FitsGit (upto : List Catch) : Type 0 where
  pub files : Files
  pub leads : LeadsTo upto files
  pub held : CanHold files

-- of the patches after the first `count` catches of a branch, this is the first after which git can't store the tree of
-- the branch, because of the file at this path
abbrev pub IsFirstBad : List Catch → ℕ → List Patch → List ℕ → List ℕ → Type 0
IsFirstBad branch count [] name path = ⊥
IsFirstBad branch count (patch ∷ patches) name path =
    ((patch.name ≡ name) × IsBad (take (count + patch.changes) branch) path)
    ⊎ (FitsGit (take (count + patch.changes) branch) × IsFirstBad branch (count + patch.changes) patches name path)

-- the first patch of a branch after which git can't store the tree, and the path of the file that is the reason
pub record IsUnheld (branch : List Catch) (name path : List ℕ) : Type 0 where
  pub patches : List Patch
  pub has : HasPatches branch patches
  pub first : IsFirstBad branch 0 patches name path
