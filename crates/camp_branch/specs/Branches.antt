-- A branch as a list of catches: its patches, and when it is lawful.
use Rattle.std.specs.Prelude.{◌≡◌, ◌≤◌, ℕ, zero, suc, ◌+◌, Bool, false, not, if◌then◌else◌, List, [], ◌∷◌, ◌++◌, map, filter, bytes_eq}
use Rattle.std.specs.Prelude.{Option, None, Some}
use Rattle.std.specs.List.{AllByRecursion, flat_map, list_any}
use Rattle.std.specs.FinMap.{empty}
use Rattle.camp_base.specs.Limits.{most_changes}
use Rattle.camp_base.specs.Trees.{Files}
use Rattle.camp_prim.specs.declared.labels.Key.{Key}
use Rattle.camp_prim.specs.declared.primitives.Primitive.{Primitive}
use Rattle.camp_seq.specs.Running.{AppliesAll}
use Rattle.camp_catch.specs.Catches.{FitsAll, catch_key, effect_of}
use Rattle.camp_catch.specs.Laws.{keys_of}
use Rattle.camp_catch.specs.declared.catches.Catch.{Catch}
use Rattle.camp_catch.specs.declared.catches.Catch.TheVariants.{Plain}

-- the name of the patch of a catch
abbrev pub name_of : Catch → List ℕ
name_of k = (catch_key k).name

-- a name is in a list
abbrev pub is_among : List (List ℕ) → List ℕ → Bool
is_among names name = list_any (bytes_eq name) names

-- names without repetitions, in the order of their first occurrences
abbrev pub each_once : List (List ℕ) → List (List ℕ)
each_once [] = []
each_once (name ∷ names) = name ∷ filter (λ other. not (bytes_eq name other)) (each_once names)

-- the names of the patches of a branch, each once, in the order of their first catches
abbrev pub names_of : List Catch → List (List ℕ)
names_of branch = each_once (map name_of branch)

-- a branch has a patch of this name
abbrev pub has_patch : List Catch → List ℕ → Bool
has_patch branch name = is_among (map name_of branch) name

-- the first of some names of which a branch has no patch, or none
abbrev pub first_lacked : List Catch → List (List ℕ) → Option (List ℕ)
first_lacked branch [] = None
first_lacked branch (name ∷ names) = if has_patch branch name then first_lacked branch names else Some name

-- a branch leads to this tree: its catches fit one after the other from the empty tree
abbrev pub LeadsTo : List Catch → Files → Type 0
LeadsTo branch tree = FitsAll branch empty tree

-- the tree of a branch: the effects of its catches, in order, applied to the empty tree
abbrev pub IsTreeOf : List Catch → Files → Type 0
IsTreeOf branch tree = AppliesAll (flat_map effect_of branch) empty tree

-- the catches that a record of these changes makes, at positions from `place` on
abbrev pub recorded : List ℕ → ℕ → List Primitive → List Catch
recorded name place [] = []
recorded name place (change ∷ changes) =
    Plain (record { name = name; place = place; inverse = false; prim = change }) ∷ recorded name (place + 1) changes

-- a patch by its name and the number of its changes
pub record Patch : Type 0 where
  pub name : List ℕ
  pub changes : ℕ

-- the absolute labels of changes of a patch, at positions from `place` on
abbrev pub labels_from : List ℕ → ℕ → ℕ → List Key
labels_from name place zero = []
labels_from name place (suc changes) = record { name = name; place = place } ∷ labels_from name (place + 1) changes

-- the absolute labels of patches: those of each patch together, at positions from 1
abbrev pub labels_of : List Patch → List Key
labels_of [] = []
labels_of (patch ∷ patches) = labels_from patch.name 1 patch.changes ++ labels_of patches

-- the names of patches, in order
abbrev pub patch_names : List Patch → List (List ℕ)
patch_names patches = map (λ p. p.name) patches

-- no name occurs twice
abbrev pub AreDistinct : List (List ℕ) → Type 0
AreDistinct [] = Unit {0}
AreDistinct (name ∷ names) = (is_among names name ≡ false) × AreDistinct names

-- a patch has 1 to 64 changes
abbrev pub IsSized : Patch → Type 0
IsSized patch = (1 ≤ patch.changes) × (patch.changes ≤ most_changes)

-- a branch has these patches: their names are distinct, each has 1 to 64 changes, and the labels are theirs
pub record HasPatches (branch : List Catch) (patches : List Patch) : Type 0 where
  pub distinct : AreDistinct (patch_names patches)
  pub sized : AllByRecursion IsSized patches
  pub labels : keys_of branch ≡ labels_of patches

-- a branch is lawful: its labels are those of some patches, and it leads to a tree
pub record IsLawfulBranch (branch : List Catch) : Type 0 where
  pub patches : List Patch
  pub has : HasPatches branch patches
  pub tree : Files
  pub leads : LeadsTo branch tree
