-- A patch as it is in a branch.
use Rattle.std.specs.Prelude.{◌≡◌, ℕ, List, [], ◌∷◌, map, Ok}
use Rattle.std.specs.List.{flat_map}
use Rattle.camp_prim.specs.declared.named.Named.{Named}
use Rattle.camp_prim.specs.declared.primitives.Primitive.{Primitive}
use Rattle.camp_catch.specs.Catches.{effect_of}
use Rattle.camp_catch.specs.declared.catches.Catch.{Catch}
use Rattle.camp_repo.specs.States.{Contents}
use Rattle.camp_repo.specs.Steps.{catches_named}
use Rattle.camp_questions.specs.Answers.{AnswerOf, OfBranch, OfPatches}

-- the changes of an effect, without their labels
abbrev pub changes_in : List Named → List Primitive
changes_in effect = map (λ (p : Named). p.prim) effect

-- the changes of catches: those of their effects, one after the other
abbrev pub changes_of : List Catch → List Primitive
changes_of catches = flat_map (λ k. changes_in (effect_of k)) catches

-- a patch: its catches and their changes
pub record PatchContents : Type 0 where
  pub catches : List Catch
  pub changes : List Primitive

-- the patch of a name as it is in a branch: its catches in the order of the branch, and their changes
abbrev pub patch_in : List Catch → List ℕ → PatchContents
patch_in branch name =
    let catches = catches_named (name ∷ []) branch in record { catches = catches; changes = changes_of catches }

-- the question for a patch of a branch
abbrev pub IsShown : Contents → List ℕ → List ℕ → AnswerOf PatchContents → Type 0
IsShown state branch name =
    OfBranch state branch (λ catches. OfPatches catches (name ∷ []) (λ answer. answer ≡ Ok (patch_in catches name)))
