-- The laws of branches.
use Rattle.std.specs.Prelude.{◌≡◌, ◌≤◌, ℕ, true, false, not, List, [], ◌∷◌, ◌++◌, filter, length, Ok}
use Rattle.std.specs.FinMap.{empty as no_files}
use Rattle.camp_base.specs.Limits.{most_changes}
use Rattle.camp_base.specs.Trees.{Files}
use Rattle.camp_prim.specs.Effect.{Applies}
use Rattle.camp_prim.specs.declared.primitives.Primitive.{Primitive}
use Rattle.camp_catch.specs.declared.catches.Catch.{Catch}
use Rattle.camp_branch.specs.Branches.{HasPatches, IsLawfulBranch, IsTreeOf, LeadsTo, Patch, has_patch, is_among, names_of}
use Rattle.camp_branch.specs.Branches.{patch_names, recorded}
use Rattle.camp_branch.specs.Conflicting.{AreConflicts}
use Rattle.camp_branch.specs.Obliterating.{ObliterateGives, other_names}
use Rattle.camp_branch.specs.Pulling.{PullGives}

-- a branch leads to at most one tree, the tree of its effects
pub record TreesAreDetermined : Type 0 where
  pub one : (branch : List Catch) (tree other : Files) → LeadsTo branch tree → LeadsTo branch other → tree ≡ other
  pub effects : (branch : List Catch) (tree : Files) → LeadsTo branch tree → IsTreeOf branch tree

-- the names of a branch are those of its patches, in their order
abbrev pub NamesAreOfPatches : Type 0
NamesAreOfPatches =
    (branch : List Catch) (patches : List Patch) → HasPatches branch patches → names_of branch ≡ patch_names patches

-- exactly one value has a property
abbrev pub ExactlyOne : {A : Type 0} → (A → Type 0) → Type 0
ExactlyOne {A} Has = (one : A) × Has one × ((other : A) → Has other → other ≡ one)

-- a pull and an obliteration have exactly one outcome each
pub record OutcomesAreDetermined : Type 0 where
  pub pulls : (from to : List Catch) (wanted : List (List ℕ)) → ExactlyOne (PullGives from to wanted)
  pub obliterates : (branch : List Catch) (names : List (List ℕ)) → ExactlyOne (ObliterateGives branch names)

-- the conflicts of a branch are exactly one list of pairs
abbrev pub ConflictsAreDetermined : Type 0
ConflictsAreDetermined = (branch : List Catch) → ExactlyOne (AreConflicts branch)

-- the patches with these names
abbrev pub those_of : List (List ℕ) → List Patch → List Patch
those_of names patches = filter (λ p. is_among names p.name) patches

-- the patches with other names
abbrev pub others_of : List (List ℕ) → List Patch → List Patch
others_of names patches = filter (λ p. not (is_among names p.name)) patches

-- no patch of a branch has one of these names
abbrev pub AreLacked : List Catch → List (List ℕ) → Type 0
AreLacked to wanted = (name : List ℕ) → is_among wanted name ≡ true → has_patch to name ≡ false

-- the result of a pull begins with the catches of `to`
abbrev pub PullsBeginWithOwn : Type 0
PullsBeginWithOwn =
    (from to pulled : List Catch) (wanted : List (List ℕ)) → PullGives from to wanted (Ok pulled) →
    (taken : List Catch) × (pulled ≡ to ++ taken)

-- the result of a pull has the patches of `to`, and then the wanted ones in their order in `from`; it is lawful if both
-- branches are
pub record PullsKeepLawful : Type 0 where
  pub patches :
      (from to pulled : List Catch) (wanted : List (List ℕ)) (theirs ours : List Patch) →
      PullGives from to wanted (Ok pulled) → HasPatches from theirs → HasPatches to ours → AreLacked to wanted →
      HasPatches pulled (ours ++ those_of wanted theirs)
  pub names :
      (from to pulled : List Catch) (wanted : List (List ℕ)) → PullGives from to wanted (Ok pulled) →
      IsLawfulBranch from → IsLawfulBranch to → AreLacked to wanted →
      names_of pulled ≡ names_of to ++ filter (is_among wanted) (names_of from)
  pub lawful :
      (from to pulled : List Catch) (wanted : List (List ℕ)) → PullGives from to wanted (Ok pulled) →
      IsLawfulBranch from → IsLawfulBranch to → AreLacked to wanted → IsLawfulBranch pulled

-- an obliteration keeps the other patches in their order; its result is lawful if the branch is
pub record ObliteratesKeepLawful : Type 0 where
  pub patches :
      (branch left : List Catch) (names : List (List ℕ)) (own : List Patch) →
      ObliterateGives branch names (Ok left) → HasPatches branch own → HasPatches left (others_of names own)
  pub names :
      (branch left : List Catch) (names : List (List ℕ)) → ObliterateGives branch names (Ok left) → IsLawfulBranch branch →
      names_of left ≡ other_names branch names
  pub lawful :
      (branch left : List Catch) (names : List (List ℕ)) → ObliterateGives branch names (Ok left) → IsLawfulBranch branch →
      IsLawfulBranch left

-- changes, applied in order, lead from one tree to another
abbrev pub AppliesEach : List Primitive → Files → Files → Type 0
AppliesEach [] old new = new ≡ old
AppliesEach (change ∷ changes) old new =
    (between : Files) × Applies change old between × AppliesEach changes between new

-- the branch of a new repository is lawful, and stays so if 1 to 64 changes that lead from its tree to
-- another are recorded under a new name
pub record RecordsKeepLawful : Type 0 where
  pub empty : HasPatches [] [] × LeadsTo [] no_files
  pub patches :
      (branch : List Catch) (patches : List Patch) (name : List ℕ) (changes : List Primitive) →
      HasPatches branch patches → has_patch branch name ≡ false → 1 ≤ length changes → length changes ≤ most_changes →
      HasPatches (branch ++ recorded name 1 changes)
      (patches ++ record { name = name; changes = length changes } ∷ [])
  pub tree :
      (branch : List Catch) (name : List ℕ) (changes : List Primitive) (old new : Files) →
      LeadsTo branch old → AppliesEach changes old new → LeadsTo (branch ++ recorded name 1 changes) new
