-- The representation of a branch.
use Rattle.std.specs.Prelude.{◌≡◌, ℕ, Bool, List}
use Rattle.std.specs.Ordering.{nat_cmp}
use Rattle.std.specs.Cmp.Lexicographic.{slice_cmp}
use Rattle.std.specs.FinMap.{contains_key, keys}
use Rattle.camp_share.specs.Maps.{map_of}
use Rattle.camp_branch.specs.Branches.{IsLawfulBranch, LeadsTo, has_patch}
use Rattle.camp_branch.specs.declared.branches.Branch.TheInside.{Inside}

-- the names of a set
abbrev pub names_in : List (List ℕ × Unit {0}) → List (List ℕ)
names_in set = keys (map_of (slice_cmp nat_cmp) set)

-- a set has a name
abbrev pub has_name : List (List ℕ × Unit {0}) → List ℕ → Bool
has_name set name = contains_key (map_of (slice_cmp nat_cmp) set) name

-- the invariant of a branch: its catches are lawful, the index has the names of their patches, and the stored tree is
-- the one that they lead to
pub record IsBranch (branch : Inside) : Type 0 where
  pub lawful : IsLawfulBranch branch.catches
  pub named :
      (name : List ℕ) → contains_key (map_of (slice_cmp nat_cmp) branch.names) name ≡ has_patch branch.catches name
  pub kept : LeadsTo branch.catches branch.tree
