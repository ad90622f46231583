-- Which trees git can store.
use Rattle.std.specs.Prelude.{◌≡◌, ℕ, Bool, true, List, bytes_eq, codes, map, ◌⊎◌}
use Rattle.std.specs.List.{list_any}
use Rattle.std.specs.Char.{to_ascii_lowercase}
use Rattle.std.specs.FinMap.{contains_key}
use Rattle.camp_base.specs.Bytes.{path_parts}
use Rattle.camp_base.specs.Trees.{Files}
use Rattle.camp_git.specs.FastImport.{is_inside}

-- a component of a path is `.git`, in capital or small letters
abbrev pub is_git_part : List ℕ → Bool
is_git_part part = bytes_eq (map to_ascii_lowercase part) (codes ".git")

-- a path has a component `.git`
abbrev pub has_git_part : List ℕ → Bool
has_git_part path = list_any is_git_part (path_parts path)

-- git can't store the file at a path: a component of the path is `.git`, or the path is a folder of another file too
abbrev pub CannotHold : Files → List ℕ → Type 0
CannotHold files path =
    (has_git_part path ≡ true)
    ⊎ ((other : List ℕ) × (contains_key files other ≡ true) × (is_inside path other ≡ true))

-- git can store a tree: each of its files
abbrev pub CanHold : Files → Type 0
CanHold files = (path : List ℕ) → contains_key files path ≡ true → ¬ (CannotHold files path)
