-- The index of a path among the files of a tree, and the files in the folder of that path.
use Rattle.std.specs.Prelude.{◌≡◌, ℕ, ◌<◌, ◌≤◌, true, false, List, Some, length, slice_get, take}
use Rattle.std.specs.Ordering.{nat_cmp}
use Rattle.std.specs.Cmp.Lexicographic.{slice_cmp}
use Rattle.std.specs.declared.cmp.Ordering.TheVariants.{Less}
use Rattle.std.specs.FinMap.{contains_key, entries, len}
use Rattle.camp_base.specs.Trees.{Files, Lines}
use Rattle.camp_git.specs.FastImport.{is_inside}
use Rattle.camp_git.specs.Holding.{has_git_part}

-- the files before this index have paths less than these bytes; the file at the index does not
pub record IsPlaceOf (tree : Files) (bytes : List ℕ) (place : ℕ) : Type 0 where
  pub within : place ≤ len tree
  pub before : (k : ℕ) (file : List ℕ × Lines) → k < place → slice_get (entries tree) k ≡ Some file → slice_cmp nat_cmp file.0 bytes ≡ Less
  pub here : (file : List ℕ × Lines) → slice_get (entries tree) place ≡ Some file → ¬ (slice_cmp nat_cmp file.0 bytes ≡ Less)

-- the path of a file begins with these bytes
abbrev pub IsStartOfPath : Files → List ℕ → Type 0
IsStartOfPath tree bytes =
    (other : List ℕ) × (contains_key tree other ≡ true) × (take (length bytes) other ≡ bytes)

-- a file is in the folder of a path
abbrev pub HasInside : Files → List ℕ → Type 0
HasInside tree path = (other : List ℕ) × (contains_key tree other ≡ true) × (is_inside path other ≡ true)

-- the path of a file is a folder of another path
abbrev pub IsAround : Files → List ℕ → List ℕ → Type 0
IsAround tree path file = (contains_key tree file ≡ true) × (is_inside file path ≡ true)

-- no file of the tree is a folder of the path
abbrev pub IsNoneAround : Files → List ℕ → Type 0
IsNoneAround tree path = (file : List ℕ) → contains_key tree file ≡ true → is_inside file path ≡ false

-- a path is free: it has no component `.git`, no file is in its folder, and no file is a folder of it
pub record IsFree (tree : Files) (path : List ℕ) : Type 0 where
  pub plain : has_git_part path ≡ false
  pub empty : ¬ (HasInside tree path)
  pub alone : IsNoneAround tree path

-- a path is free in the new tree if its file is new there
abbrev pub IsFreeIfNew : Files → Files → List ℕ → Type 0
IsFreeIfNew old new path =
    contains_key old path ≡ false → contains_key new path ≡ true → IsFree new path
