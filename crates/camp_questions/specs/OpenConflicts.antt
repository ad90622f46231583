-- The unresolved conflicts of a branch.
use Rattle.std.specs.Prelude.{◌≡◌, ◌⊎◌, ◌↔◌, ℕ, Bool, true, false, not, List, Option, None, Some, Ok, Contains, AllPairs}
use Rattle.std.specs.Ordering.{nat_cmp}
use Rattle.std.specs.Cmp.Lexicographic.{slice_cmp}
use Rattle.std.specs.declared.cmp.Ordering.TheVariants.{Less}
use Rattle.std.specs.FinMap.{get}
use Rattle.std.specs.List.{list_any}
use Rattle.camp_prim.specs.declared.labels.Key.{Key}
use Rattle.camp_ctx.specs.Contexts.{ContextedPatch, ContextedPatches, context_key}
use Rattle.camp_catch.specs.declared.catches.Catch.{Catch}
use Rattle.camp_catch.specs.declared.catches.Catch.TheVariants.{Plain}
use Rattle.camp_branch.specs.Conflicting.{IsBefore}
use Rattle.camp_repo.specs.States.{Contents}
use Rattle.camp_questions.specs.Answers.{AnswerOf, OfBranch}
use Rattle.camp_questions.specs.Sides.{AreSeen}

-- the context of a contexted patch has an inverse: something in the tree has to be undone before the patch can be
-- inserted
abbrev pub has_inverse : ContextedPatch → Bool
has_inverse x = list_any (λ p. p.inverse) x.context

-- a contexted patch can be inserted without undoing anything
abbrev pub is_free : Option ContextedPatch → Bool
is_free None = false
is_free (Some x) = not (has_inverse x)

-- a label is unresolved: it is in conflict, and its patch can be inserted without undoing anything
abbrev pub is_unresolved : ContextedPatches → Key → Bool
is_unresolved seen key = is_free (get seen key)

-- a catch of the first patch is a conflictor with a member of the second patch in its set, and both labels are
-- unresolved
abbrev pub IsUnresolvedWith : ContextedPatches → List ℕ → List ℕ → Catch → Type 0
IsUnresolvedWith seen first second (Plain a) = ⊥
IsUnresolvedWith seen first second (Catch.Conflictor k) =
    ((context_key k.identity).name ≡ first) × (is_unresolved seen (context_key k.identity) ≡ true)
    × ((key : Key) × (x : ContextedPatch) × (get k.conflicts key ≡ Some x) × (key.name ≡ second) × (is_unresolved seen key ≡ true))

-- the conflict of two patches is unresolved in a branch
abbrev pub AreInUnresolvedConflict : List Catch → ContextedPatches → List ℕ → List ℕ → Type 0
AreInUnresolvedConflict branch seen first second =
    (k : Catch) × Contains branch k × (IsUnresolvedWith seen first second k ⊎ IsUnresolvedWith seen second first k)

-- the unresolved conflicts of a branch, given its labels in conflict: each pair once, the lesser name first, in
-- ascending order
pub record AreUnresolvedAmong (branch : List Catch) (seen : ContextedPatches) (pairs : List (List ℕ × List ℕ)) : Type 0 where
  pub ascending : AllPairs IsBefore pairs
  pub listed :
      (first second : List ℕ) →
      Contains pairs (first, second) ↔ ((slice_cmp nat_cmp first second ≡ Less) × AreInUnresolvedConflict branch seen first second)

-- the unresolved conflicts of a branch
abbrev pub AreUnresolvedIn : List Catch → List (List ℕ × List ℕ) → Type 0
AreUnresolvedIn branch pairs = (seen : ContextedPatches) × AreSeen branch seen × AreUnresolvedAmong branch seen pairs

-- the question for the unresolved conflicts of a branch
abbrev pub AreUnresolved : Contents → List ℕ → AnswerOf (List (List ℕ × List ℕ)) → Type 0
AreUnresolved state branch =
    OfBranch state branch (λ catches answer.
    (pairs : List (List ℕ × List ℕ)) × (answer ≡ Ok pairs) × AreUnresolvedIn catches pairs)
