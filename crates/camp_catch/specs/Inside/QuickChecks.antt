-- How two catches merge or commute that may have gained conflicts which are not in their sets yet.
use Rattle.std.specs.Prelude.{List, [], ◌∷◌, ◌++◌}
use Rattle.camp_ctx.specs.Contexts.{ContextedPatch}
use Rattle.camp_catch.specs.Commuting.{CommuteCatch}
use Rattle.camp_catch.specs.Inside.InPlace.{with_gained}
use Rattle.camp_catch.specs.Merging.{MergeCatch}
use Rattle.camp_catch.specs.declared.catches.Catch.{Catch}
use Rattle.camp_catch.specs.declared.fast.gaining.MergeCheck.{MergeCheck}
use Rattle.camp_catch.specs.declared.fast.gaining.MergeCheck.TheVariants.{Aside, Conflict, Unknown}
use Rattle.camp_catch.specs.declared.fast.passing.CommuteCheck.{CommuteCheck}

-- two catches merge, whatever conflicts they have gained before: the second gains the conflicts `these`, and the first
-- the conflicts `those`
abbrev pub MergesGaining : Catch → Catch → List ContextedPatch → List ContextedPatch → Type 0
MergesGaining j k these those =
    (before beside : List ContextedPatch)
    → MergeCatch (with_gained before j) (with_gained beside k) (with_gained (beside ++ these) k) (with_gained (before ++ those) j)

-- the result of a quick check of a merge is right: neither catch gains a conflict, or each gains the given one;
-- `Unknown` is always right
abbrev pub IsMergeCheck : Catch → Catch → MergeCheck → Type 0
IsMergeCheck j k Aside = MergesGaining j k [] []
IsMergeCheck j k (Conflict l i) = MergesGaining j k (l ∷ []) (i ∷ [])
IsMergeCheck j k Unknown = Unit {0}

-- k commutes with the j before it, whatever conflicts j has gained before; k becomes k', and j gains these conflicts
abbrev pub CommutesGaining : Catch → Catch → Catch → List ContextedPatch → Type 0
CommutesGaining j k k' these =
    (before : List ContextedPatch) → CommuteCatch (with_gained before j) k k' (with_gained (before ++ these) j)

-- the result of a quick check of a commute is right: both catches stay unchanged, or k becomes the given catch and j
-- gains the given conflict; `Unknown` is always right
abbrev pub IsCommuteCheck : Catch → Catch → CommuteCheck → Type 0
IsCommuteCheck j k CommuteCheck.Aside = CommutesGaining j k k []
IsCommuteCheck j k (CommuteCheck.Leaves k' l) = CommutesGaining j k k' (l ∷ [])
IsCommuteCheck j k CommuteCheck.Unknown = Unit {0}
