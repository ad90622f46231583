-- When a state is lawful.
use Rattle.std.specs.Prelude.{◌≡◌, ℕ, List, map}
use Rattle.std.specs.List.{AllByRecursion}
use Rattle.camp_base.specs.Trees.{Files}
use Rattle.camp_catch.specs.declared.catches.Catch.{Catch}
use Rattle.camp_branch.specs.Branches.{AreDistinct, HasPatches, LeadsTo, Patch}
use Rattle.camp_repo.specs.States.{Branches, Contents}

-- a branch is lawful, and `changes_of` gives the number of changes of each of its patches: its labels are those of its
-- patches, patch by patch, at positions from 1; and its catches fit one after the other from the empty tree
pub record IsLawfulBy (changes_of : List ℕ → ℕ) (catches : List Catch) : Type 0 where
  pub patches : List Patch
  pub has : HasPatches catches patches
  pub agree : AllByRecursion (λ patch. patch.changes ≡ changes_of patch.name) patches
  pub tree : Files
  pub leads : LeadsTo catches tree

-- the names of branches
abbrev pub names_of_branches : Branches → List (List ℕ)
names_of_branches branches = map (λ branch. branch.0) branches

-- a state is lawful: its branches have distinct names, each branch is lawful, and a patch has the same number of
-- changes in each branch that has it
pub record IsLawfulState (state : Contents) : Type 0 where
  pub distinct : AreDistinct (names_of_branches state.branches)
  pub changes_of : List ℕ → ℕ
  pub lawful : AllByRecursion (λ branch. IsLawfulBy changes_of branch.1) state.branches
