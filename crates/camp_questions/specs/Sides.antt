-- The side of a patch in conflict: the changes that would apply the patch at the end of its branch.
use Rattle.std.specs.Prelude.{◌≡◌, ℕ, Bool, true, false, List, [], ◌∷◌, ◌++◌, filter, Option, None, Some, MatchOption, Ok, bytes_eq, if◌then◌else◌}
use Rattle.std.specs.FinMap.{get, values}
use Rattle.std.specs.List.{AllByRecursion, flat_map, list_any}
use Rattle.std.specs.Ordering.{eq_by_cmp}
use Rattle.camp_prim.specs.Labels.{key_cmp, key_of, label_of}
use Rattle.camp_prim.specs.declared.labels.Key.{Key}
use Rattle.camp_prim.specs.declared.named.Named.{Named}
use Rattle.camp_prim.specs.declared.primitives.Primitive.{Primitive}
use Rattle.camp_seq.specs.Running.{inverse_all}
use Rattle.camp_ctx.specs.Adding.{AddsAll}
use Rattle.camp_ctx.specs.Contexts.{ContextedPatch, ContextedPatches, context_key, whole}
use Rattle.camp_catch.specs.Catches.{effect_of}
use Rattle.camp_catch.specs.declared.catches.Catch.{Catch}
use Rattle.camp_catch.specs.declared.catches.Catch.TheVariants.{Plain}
use Rattle.camp_repo.specs.States.{Contents}
use Rattle.camp_questions.specs.Answers.{AnswerOf, OfBranch, OfPatches}
use Rattle.camp_questions.specs.Showing.{changes_in}

-- the contexted patch with this absolute label in a conflictor: its identity, or the member of its set
abbrev pub contexted_in : Catch → Key → Option ContextedPatch
contexted_in (Plain a) key = None
contexted_in (Catch.Conflictor k) key =
    if eq_by_cmp key_cmp key (context_key k.identity) then Some k.identity else get k.conflicts key

-- no catch has a contexted patch with this absolute label
abbrev pub HaveNoContexted : List Catch → Key → Type 0
HaveNoContexted catches key = AllByRecursion (λ k. contexted_in k key ≡ None) catches

-- a label in conflict, as seen from the end of a branch: of the last catch k that has a contexted patch with this
-- label, that contexted patch, to which the inverses of the effects after k are added; branch = before k behind
pub record IsSeen (branch : List Catch) (key : Key) (seen : ContextedPatch) : Type 0 where
  pub before : List Catch
  pub k : Catch
  pub behind : List Catch
  pub parts : branch ≡ before ++ k ∷ behind
  pub last : HaveNoContexted behind key
  pub x : ContextedPatch
  pub told : contexted_in k key ≡ Some x
  pub added : AddsAll (inverse_all (flat_map effect_of behind)) x seen

-- all labels in conflict of a branch, as seen from its end
abbrev pub AreSeen : List Catch → ContextedPatches → Type 0
AreSeen branch seen = (key : Key) → MatchOption (get seen key) (HaveNoContexted branch key) (IsSeen branch key)

-- a primitive of a list has an absolute label
abbrev pub has_key : List Named → Key → Bool
has_key s key = list_any (λ p. eq_by_cmp key_cmp key (key_of (label_of p))) s

-- if the flag is true, changes stay as they are; else the inverses of the changes are added to a contexted patch, and
-- the resulting context and patch are appended to the changes
abbrev pub AppendsUnless : Bool → List Named → ContextedPatch → List Named → Type 0
AppendsUnless true changes x next = next ≡ changes
AppendsUnless false changes x next =
    (y : ContextedPatch) × AddsAll (inverse_all changes) x y × (next ≡ changes ++ whole y)

-- a contexted patch is appended to changes, unless its absolute label is among theirs already
abbrev pub AppendsNew : List Named → ContextedPatch → List Named → Type 0
AppendsNew changes x next = AppendsUnless (has_key changes (context_key x)) changes x next

-- contexted patches are appended to changes, one after the other
abbrev pub AppendsEachNew : List Named → List ContextedPatch → List Named → Type 0
AppendsEachNew changes [] side = side ≡ changes
AppendsEachNew changes (x ∷ xs) side =
    (next : List Named) × AppendsNew changes x next × AppendsEachNew next xs side

-- the labels in conflict of a patch, ordered by position
abbrev pub labels_of_patch : List ℕ → ContextedPatches → List ContextedPatch
labels_of_patch name seen = filter (λ x. bytes_eq name x.patch.name) (values seen)

-- the side of a patch, given the labels in conflict of its branch: the contexted patches with the labels of the patch,
-- appended one after the other
abbrev pub IsSideAmong : ContextedPatches → List ℕ → List Named → Type 0
IsSideAmong seen name side = AppendsEachNew [] (labels_of_patch name seen) side

-- the side of a patch in a branch
abbrev pub IsSideIn : List Catch → List ℕ → List Named → Type 0
IsSideIn branch name side = (seen : ContextedPatches) × AreSeen branch seen × IsSideAmong seen name side

-- the question for the changes of the side of a patch, which the branch has
abbrev pub IsSide : Contents → List ℕ → List ℕ → AnswerOf (List Primitive) → Type 0
IsSide state branch name =
    OfBranch state branch (λ catches. OfPatches catches (name ∷ []) (λ answer.
    (side : List Named) × (answer ≡ Ok (changes_in side)) × IsSideIn catches name side))
