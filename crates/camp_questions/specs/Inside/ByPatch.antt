-- Lists of catches grouped by patch.
use Rattle.std.specs.Prelude.{◌≡◌, ℕ, zero, suc, ◌==◌, false, cond, List, [], ◌∷◌, map, bytes_eq}
use Rattle.std.specs.List.{AllByRecursion, flat_map}
use Rattle.camp_catch.specs.Catches.{catch_key}
use Rattle.camp_catch.specs.declared.catches.Catch.{Catch}
use Rattle.camp_branch.specs.Branches.{AreDistinct, name_of, names_of}
use Rattle.camp_questions.specs.declared.fast.patch_catches.PatchCatches.{PatchCatches}

-- all catches of the list belong to the patch of this name
abbrev pub AreOfPatch : List ℕ → List Catch → Type 0
AreOfPatch name list = AllByRecursion (λ k. name_of k ≡ name) list

-- no catch of the list belongs to the patch of this name
abbrev pub AreApart : List ℕ → List Catch → Type 0
AreApart name list = AllByRecursion (λ k. bytes_eq (name_of k) name ≡ false) list

-- the names of some patches, in order
abbrev pub names_in_order : List PatchCatches → List (List ℕ)
names_in_order patches = map (λ (patch : PatchCatches). patch.name) patches

-- the catches of some patches, one patch after the other
abbrev pub catches_in_order : List PatchCatches → List Catch
catches_in_order patches = flat_map (λ (patch : PatchCatches). patch.catches.items) patches

-- each patch has catches of its own name, and no two patches have the same name
pub record ArePatches (patches : List PatchCatches) : Type 0 where
  pub own : AllByRecursion (λ (patch : PatchCatches). AreOfPatch patch.name patch.catches.items) patches
  pub distinct : AreDistinct (names_in_order patches)

-- the patches to which the catches of a list belong
pub record ArePatchesOf (list : List Catch) (patches : List PatchCatches) : Type 0 where
  pub are : ArePatches patches
  pub catches : catches_in_order patches ≡ list
  pub names : names_in_order patches ≡ names_of list

-- the number of catches at the start of a list that belong to the patch of this name
abbrev pub until_next : List Catch → ℕ
until_next [] = zero
until_next (k ∷ list) = cond ((catch_key k).place == 1) zero (suc (until_next list))
