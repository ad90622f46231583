-- The state of a repository as plain data.
use Rattle.std.specs.Prelude.{ℕ, ◌+◌, Bool, List, [], ◌∷◌, Option, None, Some, bytes_eq, codes, if◌then◌else◌}
use Rattle.std.specs.List.{flat_map, list_any}
use Rattle.std.specs.Option.{option_and_then}
use Rattle.std.specs.FinMap.{empty}
use Rattle.camp_base.specs.Trees.{Files}
use Rattle.camp_prim.specs.Applied.{applied}
use Rattle.camp_prim.specs.declared.named.Named.{Named}
use Rattle.camp_catch.specs.Catches.{effect_of}
use Rattle.camp_catch.specs.declared.catches.Catch.{Catch}
use Rattle.camp_branch.specs.Branches.{has_patch}
use Rattle.camp_repo.specs.Limits.{Bounds, default_bounds}

-- a branch: its name and its catches
abbrev pub Branches : Type 0
Branches = List (List ℕ × List Catch)

-- the branches in order of creation, the number of accepted calls, and the limits, which no call changes
pub record Contents : Type 0 where
  pub branches : Branches
  pub count : ℕ
  pub limits : Bounds

-- the state after one more accepted call, with these branches
abbrev pub after : Contents → Branches → Contents
after state branches = record { branches = branches; count = state.count + 1; limits = state.limits }

-- a new repository with these limits: one branch `main` without a patch, and no call accepted
abbrev pub new_within : Bounds → Contents
new_within limits = record { branches = (codes "main", []) ∷ []; count = 0; limits = limits }

-- a new repository with the default limits
abbrev pub initial : Contents
initial = new_within default_bounds

-- the catches of the branch of a name, if there is one
abbrev pub catches_of : Branches → List ℕ → Option (List Catch)
catches_of [] name = None
catches_of (branch ∷ branches) name = if bytes_eq name branch.0 then Some branch.1 else catches_of branches name

-- the branches with the catches of the one of this name replaced
abbrev pub with_catches : Branches → List ℕ → List Catch → Branches
with_catches [] name catches = []
with_catches (branch ∷ branches) name catches =
    if bytes_eq name branch.0 then (branch.0, catches) ∷ branches else branch ∷ with_catches branches name catches

-- some branch has a patch of this name
abbrev pub stands : Branches → List ℕ → Bool
stands branches name = list_any (λ branch. has_patch branch.1 name) branches

-- the tree that primitives, one after the other, lead to, if each applies
abbrev pub tree_after : Files → List Named → Option Files
tree_after tree [] = Some tree
tree_after tree (p ∷ ps) = option_and_then (λ next. tree_after next ps) (applied p.prim tree)

-- the tree of a branch: the effects of its catches, in order, applied to the empty tree
abbrev pub tree_of : List Catch → Option Files
tree_of catches = tree_after empty (flat_map effect_of catches)
