-- The dependencies of patches as marks, one for each index of the branch.
use Rattle.std.specs.Prelude.{◌≡◌, ◌<◌, ℕ, ◌+◌, Bool, true, false, ◌||◌, cond, List, [], ◌∷◌, map, length, get_or, reverse}
use Rattle.std.specs.List.{AllByRecursion}
use Rattle.camp_prim.specs.declared.named.Named.{Named}
use Rattle.camp_seq.specs.Room.{HasRoom}
use Rattle.camp_seq.specs.Running.{inverse_all}
use Rattle.camp_catch.specs.declared.catches.Catch.{Catch}
use Rattle.camp_catch.specs.declared.catches.Catch.TheVariants.{Plain}
use Rattle.camp_branch.specs.Branches.{names_of}
use Rattle.camp_questions.specs.Graphs.{Needing, NeedsThese}
use Rattle.camp_questions.specs.declared.needed.Needed.{Needed}
use Rattle.camp_questions.specs.declared.fast.patch_catches.PatchCatches.{PatchCatches}
use Rattle.camp_questions.specs.Inside.ByPatch.{ArePatches, catches_in_order, names_in_order}

-- the names at the marked indexes; an index past the last mark is not marked
abbrev pub marked : List (List ℕ) → List Bool → List (List ℕ)
marked [] marks = []
marked (name ∷ names) [] = []
marked (name ∷ names) (mark ∷ marks) = cond mark (name ∷ marked names marks) (marked names marks)

-- for each index, whether it is marked in one of two lists, the second of which is not longer than the first
abbrev pub marked_in_both : List Bool → List Bool → List Bool
marked_in_both [] more = []
marked_in_both (mark ∷ marks) [] = mark ∷ marks
marked_in_both (mark ∷ marks) (other ∷ more) = (mark || other) ∷ marked_in_both marks more

-- a patch with its dependencies as a list, in a branch whose patches have these names
abbrev pub needing : List (List ℕ) → Needed → Needing
needing names patch = record { name = patch.name; needs = marked names patch.needs.items }

-- the patches of these names, with their dependencies in a branch
pub record NeedEach (branch : List Catch) (names : List (List ℕ)) (all : List Needed) : Type 0 where
  pub names_are : map (λ (patch : Needed). patch.name) all ≡ names
  pub needs : AllByRecursion (λ patch. NeedsThese branch (needing names patch)) all

-- the patches of a branch of plain catches with headroom, with their catches inverted
pub record IsInverted (branch : List Catch) (patches : List PatchCatches) : Type 0 where
  pub forth : List Named
  pub plain : branch ≡ map Plain forth
  pub room : HasRoom forth
  pub room_back : HasRoom (inverse_all forth)
  pub are : ArePatches patches
  pub names : names_in_order patches ≡ names_of branch
  pub inverses : catches_in_order (reverse patches) ≡ map Plain (inverse_all forth)

-- the dependencies of each patch in `known` are marked right, up to the patch's own index
pub record AreKnown (branch : List Catch) (names : List (List ℕ)) (known : List Needed) : Type 0 where
  pub named : (k : ℕ) (d : Needed) (n : List ℕ) → k < length known → (get_or known k d).name ≡ get_or names k n
  pub needs : (k : ℕ) (d : Needed) → k < length known → NeedsThese branch (needing names (get_or known k d))
  pub long : (k : ℕ) (d : Needed) → k < length known → length (get_or known k d).needs.items ≡ k + 1

-- the dependencies of the patch at an index are marked right, up to that index
pub record AreReached (branch : List Catch) (names : List (List ℕ)) (place : ℕ) (marks : List Bool) : Type 0 where
  pub long : length marks ≡ place + 1
  pub needs : (n : List ℕ) → NeedsThese branch (record { name = get_or names place n; needs = marked names marks })

-- all indexes below `at` are marked
abbrev pub AreMarkedBelow : List Bool → ℕ → Type 0
AreMarkedBelow marks place = (r : ℕ) → r < place → get_or marks r false ≡ true
