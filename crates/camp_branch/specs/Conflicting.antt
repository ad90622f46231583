-- Which patches of a branch are in conflict.
use Rattle.std.specs.Prelude.{◌≡◌, ◌⊎◌, ◌↔◌, ℕ, List, Some, Contains, AllPairs}
use Rattle.std.specs.Ordering.{nat_cmp}
use Rattle.std.specs.Cmp.Lexicographic.{slice_cmp}
use Rattle.std.specs.declared.cmp.Ordering.TheVariants.{Less}
use Rattle.std.specs.FinMap.{get}
use Rattle.camp_prim.specs.declared.labels.Key.{Key}
use Rattle.camp_ctx.specs.Contexts.{ContextedPatch}
use Rattle.camp_catch.specs.declared.catches.Catch.{Catch}
use Rattle.camp_catch.specs.declared.catches.Catch.TheVariants.{Plain}
use Rattle.camp_branch.specs.Branches.{name_of}

-- a catch is a conflictor with a member of this name in its set
abbrev pub ConflictsWith : Catch → List ℕ → Type 0
ConflictsWith (Plain a) name = ⊥
ConflictsWith (Catch.Conflictor k) name =
    (key : Key) × (x : ContextedPatch) × (get k.conflicts key ≡ Some x) × (key.name ≡ name)

-- a catch of one of these patches is a conflictor with the other in its set
abbrev pub IsBetween : List ℕ → List ℕ → Catch → Type 0
IsBetween first second k =
    ((name_of k ≡ first) × ConflictsWith k second) ⊎ ((name_of k ≡ second) × ConflictsWith k first)

-- two patches are in conflict in a branch
abbrev pub AreInConflict : List Catch → List ℕ → List ℕ → Type 0
AreInConflict branch first second = (k : Catch) × Contains branch k × IsBetween first second k

-- the order of pairs of names: by the first names, then by the second
abbrev pub IsBefore : (List ℕ × List ℕ) → (List ℕ × List ℕ) → Type 0
IsBefore p q =
    (slice_cmp nat_cmp p.0 q.0 ≡ Less) ⊎ ((p.0 ≡ q.0) × (slice_cmp nat_cmp p.1 q.1 ≡ Less))

-- the conflicts of a branch: each pair of patches in conflict once, the lesser name first, in ascending order
pub record AreConflicts (branch : List Catch) (pairs : List (List ℕ × List ℕ)) : Type 0 where
  pub ascending : AllPairs IsBefore pairs
  pub listed :
      (first second : List ℕ) →
      Contains pairs (first, second) ↔ ((slice_cmp nat_cmp first second ≡ Less) × AreInConflict branch first second)
