-- The cause of a refusal, if the refusal alone does not say it: a limit, or a change of a record.
use Rattle.std.specs.Prelude.{◌≡◌, ◌<◌, ◌≤◌, ◌+◌, ℕ, suc, Bool, true, false, nat_lt, List, [], ◌∷◌, length, slice_get, Option, None, Some, if◌then◌else◌}
use Rattle.camp_base.specs.Trees.{Files}
use Rattle.camp_prim.specs.Hunks.{Edit}
use Rattle.camp_prim.specs.declared.primitives.Primitive.{Primitive}
use Rattle.camp_prim.specs.declared.primitives.Primitive.TheVariants.{Add, Hunk, Remove}
use Rattle.camp_catch.specs.declared.catches.Catch.{Catch}
use Rattle.camp_branch.specs.Branches.{LeadsTo}
use Rattle.camp_call.specs.declared.calls.Call.{Call}
use Rattle.camp_call.specs.declared.calls.Call.TheVariants as call
use Rattle.camp_call.specs.declared.replies.Refusal.{Refusal}
use Rattle.camp_call.specs.declared.replies.Refusal.TheVariants.{DoesNotApply, TooLarge}
use Rattle.camp_repo.specs.Laws.{Has}
use Rattle.camp_repo.specs.States.{Contents, catches_of, tree_of}
use Rattle.camp_repo.specs.Steps.{catches_named, has_long_side, listed, wanted}
use Rattle.camp_why.specs.Stops.{IsStop, first_stop, refusal_at}
use Rattle.camp_why.specs.declared.causes.Cause.{Cause}
use Rattle.camp_why.specs.declared.causes.Cause.TheVariants.{FullBranch, FullRepository, FullWithPull, LongSide, Stops}
use Rattle.camp_why.specs.declared.stops.Stop.{Stop}

-- ---- the reported cause

-- a refusal is `TooLarge`
abbrev pub is_of_limit : Refusal → Bool
is_of_limit TooLarge = true
is_of_limit other = false

-- a refusal of a record is about its changes
abbrev pub is_of_changes : Refusal → Bool
is_of_changes DoesNotApply = true
is_of_changes TooLarge = true
is_of_changes other = false

-- the first cause, if there is one, else the second
abbrev pub cause_or : Option Cause → Option Cause → Option Cause
cause_or None second = second
cause_or (Some cause) second = Some cause

-- the cause if a side of this change is too long: the number of the change, the path of its file, and the number of
-- lines of each side
abbrev pub long_cause : ℕ → Primitive → Option Cause
long_cause at (Add path) = None
long_cause at (Remove path) = None
long_cause at (Hunk hunk) =
    if has_long_side (Hunk hunk) then Some (LongSide at hunk.path (length hunk.old) (length hunk.new)) else None

-- the first change with a side that is too long; the changes are numbered from this number on
abbrev pub first_long : ℕ → List Primitive → Option Cause
first_long at [] = None
first_long at (change ∷ changes) = cause_or (long_cause at change) (first_long (suc at) changes)

-- the cause for a change at which a record stops, if there is one
abbrev pub stop_cause : Option Stop → Option Cause
stop_cause None = None
stop_cause (Some stop) = Some (Stops stop)

-- where a record stops, given the tree of its branch
abbrev pub stop_from : List Primitive → Option Files → Option Cause
stop_from changes None = None
stop_from changes (Some tree) = stop_cause (first_stop 1 changes tree)

-- why a record of these changes is refused in a branch with this limit and these catches
abbrev pub record_cause : ℕ → List Primitive → Option (List Catch) → Option Cause
record_cause most changes None = None
record_cause most changes (Some catches) =
    if nat_lt most (length catches + length changes) then Some (FullBranch (length catches) (length changes) most)
    else cause_or (first_long 1 changes) (stop_from changes (tree_of catches))

-- the cause if a repository has as many branches as its limits allow
abbrev pub branch_cause : Contents → Refusal → Option Cause
branch_cause state refusal = if is_of_limit refusal then Some (FullRepository (length state.branches) state.limits.branches) else None

-- the catches that a pull appends: those of one branch whose names are listed and that the other branch lacks
abbrev pub brought : List Catch → List Catch → Option (List (List ℕ)) → List Catch
brought theirs ours names = catches_named (wanted ours (listed theirs names)) theirs

-- the cause if the catches that a pull appends would bring a branch above this limit
abbrev pub full_with_pull : ℕ → Option (List Catch) → Option (List Catch) → Option (List (List ℕ)) → Option Cause
full_with_pull most (Some theirs) (Some ours) names =
    Some (FullWithPull (length ours) (length (brought theirs ours names)) most)
full_with_pull most theirs ours names = None

-- the cause if a branch would be too long after a pull between these branches
abbrev pub pull_cause : Contents → List ℕ → List ℕ → Option (List (List ℕ)) → Refusal → Option Cause
pull_cause state from to names refusal =
    if is_of_limit refusal
    then full_with_pull state.limits.catches (catches_of state.branches from) (catches_of state.branches to) names else None

-- why a call is refused at a state; none if the refusal alone says it
abbrev pub explained : Contents → Call → Refusal → Option Cause
explained state (call.Branch new from) refusal = branch_cause state refusal
explained state (call.Record branch name changes) refusal =
    if is_of_changes refusal then record_cause state.limits.catches changes (catches_of state.branches branch) else None
explained state (call.Pull from to names) refusal = pull_cause state from to names refusal
explained state other refusal = None

-- ---- the meaning of a cause

-- the refusal that a cause explains
abbrev pub refusal_by : Cause → Refusal
refusal_by (Stops stop) = refusal_at stop.why
refusal_by other = TooLarge

-- a repository has this number of branches, which is the most that its limits allow
pub record FillsRepository (state : Contents) (request : Call) (count most : ℕ) : Type 0 where
  pub new : List ℕ
  pub from : List ℕ
  pub copies : request ≡ call.Branch new from
  pub counts : count ≡ length state.branches
  pub limit : most ≡ state.limits.branches
  pub full : most ≤ count

-- a call records changes in a branch with these catches
pub record RecordsIn (state : Contents) (request : Call) (catches : List Catch) (changes : List Primitive) : Type 0 where
  pub branch : List ℕ
  pub name : List ℕ
  pub records : request ≡ call.Record branch name changes
  pub has : Has state branch catches

-- a branch has this number of catches, and would exceed its limit with those of a record
pub record FillsBranch (state : Contents) (request : Call) (has more most : ℕ) : Type 0 where
  pub catches : List Catch
  pub changes : List Primitive
  pub in_branch : RecordsIn state request catches changes
  pub counts : has ≡ length catches
  pub brings : more ≡ length changes
  pub limit : most ≡ state.limits.catches
  pub full : most < has + more

-- a branch has this number of catches, and would exceed its limit with those of a pull
pub record FillsWithPull (state : Contents) (request : Call) (has more most : ℕ) : Type 0 where
  pub from : List ℕ
  pub to : List ℕ
  pub names : Option (List (List ℕ))
  pub pulls : request ≡ call.Pull from to names
  pub theirs : List Catch
  pub ours : List Catch
  pub from_has : Has state from theirs
  pub to_has : Has state to ours
  pub counts : has ≡ length ours
  pub brings : more ≡ length (catches_named (wanted ours (listed theirs names)) theirs)
  pub limit : most ≡ state.limits.catches
  pub full : most < has + more

-- this change, counted from 1, is an edit of the file at this path; its sides have these numbers of lines, and one of
-- these is above the limit
pub record IsLongAt (changes : List Primitive) (number : ℕ) (path : List ℕ) (old new : ℕ) : Type 0 where
  pub before : ℕ
  pub numbered : number ≡ suc before
  pub hunk : Edit
  pub is : slice_get changes before ≡ Some (Hunk hunk)
  pub of_file : path ≡ hunk.path
  pub counts_old : old ≡ length hunk.old
  pub counts_new : new ≡ length hunk.new
  pub long : has_long_side (Hunk hunk) ≡ true

-- the call is a record with a change that has a side that is too long
pub record HasLongSide (state : Contents) (request : Call) (number : ℕ) (path : List ℕ) (old new : ℕ) : Type 0 where
  pub catches : List Catch
  pub changes : List Primitive
  pub in_branch : RecordsIn state request catches changes
  pub is_long : IsLongAt changes number path old new

-- the call is a record whose changes, applied to the tree of its branch, stop at one of them
pub record RecordStopsAt (state : Contents) (request : Call) (stop : Stop) : Type 0 where
  pub catches : List Catch
  pub changes : List Primitive
  pub in_branch : RecordsIn state request catches changes
  pub tree : Files
  pub leads : LeadsTo catches tree
  pub is_stop : IsStop changes tree stop

-- what a cause says of a call and a state is true
abbrev pub IsSo : Contents → Call → Cause → Type 0
IsSo state request (FullRepository count most) = FillsRepository state request count most
IsSo state request (FullBranch has more most) = FillsBranch state request has more most
IsSo state request (FullWithPull has more most) = FillsWithPull state request has more most
IsSo state request (LongSide change path old new) = HasLongSide state request change path old new
IsSo state request (Stops stop) = RecordStopsAt state request stop
