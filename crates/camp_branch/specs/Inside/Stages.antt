-- Why a step of a pull, or of an obliteration, is blocked.
use Rattle.std.specs.Prelude.{◌≡◌, ◌⊎◌, ℕ, List}
use Rattle.camp_prim.specs.declared.labels.Key.{Key}
use Rattle.camp_catch.specs.Arranging.{ArrangeIsBlocked, Align, AlignIsBlocked}
use Rattle.camp_catch.specs.Laws.{keys_of}
use Rattle.camp_catch.specs.MergingLists.{MergeIsBlocked}
use Rattle.camp_catch.specs.declared.catches.Catch.{Catch}
use Rattle.camp_branch.specs.Pulling.{DiffersAt}
use Rattle.camp_branch.specs.declared.faults.Blocked.{Blocked}
use Rattle.camp_branch.specs.declared.faults.Blocked.TheVariants.{Depends, Diverged, NoMerge}

-- a patch of these names depends on another
abbrev pub DependsIn : List (List ℕ) → List Catch → Blocked → Type 0
DependsIn names list blocked =
    (stuck : Key) × (on : Key) × ArrangeIsBlocked names list stuck on × (blocked ≡ Depends stuck.name on.name)

-- a common patch cannot be moved to the front
abbrev pub DivergesIn : List (List ℕ) → List Catch → Blocked → Type 0
DivergesIn names list blocked =
    (stuck : Key) × (on : Key) × ArrangeIsBlocked names list stuck on × (blocked ≡ Diverged stuck.name)

-- the common patches of one branch can't be put in their order in the other branch, or are different catches once they
-- are
abbrev pub DivergesFrom : List Catch → List Catch → Blocked → Type 0
DivergesFrom from_common to_common blocked =
    ((stuck : Key) × AlignIsBlocked (keys_of to_common) from_common stuck × (blocked ≡ Diverged stuck.name))
    ⊎ ((aligned : List Catch) × (name : List ℕ)
    × Align (keys_of to_common) from_common aligned × DiffersAt aligned to_common name × (blocked ≡ Diverged name))

-- two patches do not merge
abbrev pub DoesNotMerge : List Catch → List Catch → Blocked → Type 0
DoesNotMerge wanted others blocked =
    (left : Key) × (right : Key) × MergeIsBlocked wanted others left right × (blocked ≡ NoMerge left.name right.name)
