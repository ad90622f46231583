-- Pulling patches from one branch into another: the common patches are moved to the front of both and put in
-- the same order; the wanted ones come next, and are merged with those that only the other branch has.
use Rattle.std.specs.Prelude.{◌≡◌, ◌≢◌, ◌⊎◌, ℕ, List, [], ◌∷◌, ◌++◌, filter, Result, Ok, Err}
use Rattle.camp_prim.specs.declared.labels.Key.{Key}
use Rattle.camp_catch.specs.Arranging.{Arrange, ArrangeIsBlocked, Align, AlignIsBlocked}
use Rattle.camp_catch.specs.Laws.{keys_of}
use Rattle.camp_catch.specs.MergingLists.{MergeLists, MergeIsBlocked}
use Rattle.camp_catch.specs.declared.catches.Catch.{Catch}
use Rattle.camp_branch.specs.Branches.{has_patch, name_of, names_of}
use Rattle.camp_branch.specs.declared.faults.Blocked.{Blocked}
use Rattle.camp_branch.specs.declared.faults.Blocked.TheVariants.{Depends, Diverged, NoMerge}

-- the outcome of a change of a branch: the new branch, or why it is blocked
abbrev pub Outcome : Type 0
Outcome = Result (List Catch) Blocked

-- one step of a pull: it gives two lists, with which the next step continues, or it is blocked at two labels, from
-- which the reason is made
abbrev pub StepThen :
    (List Catch → List Catch → Type 0) → (Key → Key → Type 0) → (Key → Key → Blocked)
    → (List Catch → List Catch → Outcome → Type 0) → Outcome → Type 0
StepThen Gives Sticks why Next outcome =
    ((x : List Catch) × (y : List Catch) × Gives x y × Next x y outcome)
    ⊎ ((stuck : Key) × (on : Key) × Sticks stuck on × (outcome ≡ Err (why stuck on)))

-- two lists of catches first differ at this patch: that of the first list at the first index at which they differ, or
-- that of the other list if the first ends there
abbrev pub DiffersAt : List Catch → List Catch → List ℕ → Type 0
DiffersAt [] [] name = ⊥
DiffersAt [] (k ∷ list) name = name ≡ name_of k
DiffersAt (j ∷ list) [] name = name ≡ name_of j
DiffersAt (j ∷ list) (k ∷ others) name =
    ((j ≢ k) × (name ≡ name_of j)) ⊎ ((j ≡ k) × DiffersAt list others name)

-- the common patches of `from`, put in the order of `to`, are the same catches as those of `to`, and the next step
-- continues; otherwise the branches have diverged, at the patch that cannot be put in this order, or at the first that
-- differs
abbrev pub SameThen : List Catch → List Catch → (Outcome → Type 0) → Outcome → Type 0
SameThen from_common to_common Next outcome =
    (Align (keys_of to_common) from_common to_common × Next outcome)
    ⊎ (((stuck : Key) × AlignIsBlocked (keys_of to_common) from_common stuck × (outcome ≡ Err (Diverged stuck.name)))
    ⊎ ((aligned : List Catch) × (name : List ℕ)
    × Align (keys_of to_common) from_common aligned × DiffersAt aligned to_common name × (outcome ≡ Err (Diverged name))))

-- the names of the patches that both branches have
abbrev pub common_names : List Catch → List Catch → List (List ℕ)
common_names from to = filter (has_patch to) (names_of from)

-- the common patches are moved to the front of a branch, or the branches have diverged at one
-- branch <-> common others
abbrev pub CommonFirst :
    List (List ℕ) → List Catch → (List Catch → List Catch → Outcome → Type 0) → Outcome → Type 0
CommonFirst names branch =
    StepThen (Arrange names branch) (ArrangeIsBlocked names branch) (λ stuck on. Diverged stuck.name)

-- the wanted patches are moved in front of the others, or one depends on another that is not wanted
-- list <-> wanted others
abbrev pub WantedNext :
    List (List ℕ) → List Catch → (List Catch → List Catch → Outcome → Type 0) → Outcome → Type 0
WantedNext names list =
    StepThen (Arrange names list) (ArrangeIsBlocked names list) (λ stuck on. Depends stuck.name on.name)

-- the wanted patches merge with the others, or two patches do not merge
abbrev pub MergedLast :
    List Catch → List Catch → (List Catch → List Catch → Outcome → Type 0) → Outcome → Type 0
MergedLast wanted others =
    StepThen (MergeLists wanted others) (MergeIsBlocked wanted others) (λ left right. NoMerge left.name right.name)

-- the wanted patches come next after the common ones, and are merged with the patches that only `to` has; the new
-- branch is `to` followed by what the wanted patches become
abbrev pub MergesAfterCommon : List (List ℕ) → List Catch → List Catch → List Catch → Outcome → Type 0
MergesAfterCommon common from_common chosen to =
    CommonFirst common to (λ to_common others.
    SameThen from_common to_common (
    MergedLast chosen others (λ taken beside outcome. outcome ≡ Ok (to ++ taken))))

-- a pull, given the names of the common patches: its steps in order; the first that is blocked decides
abbrev pub PullBy : List (List ℕ) → List Catch → List Catch → List (List ℕ) → Outcome → Type 0
PullBy common from to wanted =
    CommonFirst common from (λ from_common behind.
    WantedNext wanted behind (λ chosen left. MergesAfterCommon common from_common chosen to))

-- the outcome of a pull: the common patches are those whose names both branches have
abbrev pub PullGives : List Catch → List Catch → List (List ℕ) → Outcome → Type 0
PullGives from to wanted = PullBy (common_names from to) from to wanted
