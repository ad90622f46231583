-- What a refusal says of its call, and that it is true.
use Rattle.std.specs.Prelude.{◌≡◌, ◌⊎◌, ℕ, true, List, [], Option, None, Some, Err}
use Rattle.camp_branch.specs.Branches.{first_lacked}
use Rattle.camp_branch.specs.declared.faults.Blocked.{Blocked}
use Rattle.camp_catch.specs.declared.catches.Catch.{Catch}
use Rattle.camp_call.specs.Calls.{IsCall}
use Rattle.camp_call.specs.declared.calls.Call.{Call}
use Rattle.camp_call.specs.declared.calls.Call.TheVariants as call
use Rattle.camp_call.specs.declared.replies.Refusal.{Refusal}
use Rattle.camp_call.specs.declared.replies.Refusal.TheVariants as refusal
use Rattle.camp_repo.specs.Lawful.{IsLawfulState}
use Rattle.camp_repo.specs.Laws.{Has}
use Rattle.camp_repo.specs.Outcomes.{obliterated, pulled}
use Rattle.camp_repo.specs.States.{Contents, catches_of, stands}
use Rattle.camp_repo.specs.Steps.{listed, refusal_of, refused, step, wanted}
use Rattle.camp_why.specs.Laws.{IsExplained, ChangesAreInRange}

-- a call names this branch, which has to exist
abbrev pub NeedsBranch : Call → List ℕ → Type 0
NeedsBranch (call.Branch new from) name = from ≡ name
NeedsBranch (call.Record branch patch changes) name = branch ≡ name
NeedsBranch (call.Pull from to names) name = (from ≡ name) ⊎ (to ≡ name)
NeedsBranch (call.Obliterate branch names) name = branch ≡ name
NeedsBranch (call.Tree branch) name = branch ≡ name
NeedsBranch (call.Conflicts branch) name = branch ≡ name
NeedsBranch (call.Names branch) name = branch ≡ name

-- a call names a branch that does not exist
abbrev pub LacksBranch : Contents → Call → List ℕ → Type 0
LacksBranch state request name = NeedsBranch request name × (catches_of state.branches name ≡ None)

-- a call creates a branch that exists already
abbrev pub MakesAgain : Contents → Call → List ℕ → Type 0
MakesAgain state (call.Branch new from) name = (new ≡ name) × ((catches : List Catch) × Has state name catches)
MakesAgain state other name = ⊥

-- a call records a patch that some branch has already
abbrev pub RecordsAgain : Contents → Call → List ℕ → Type 0
RecordsAgain state (call.Record branch patch changes) name = (patch ≡ name) × (stands state.branches name ≡ true)
RecordsAgain state other name = ⊥

-- a branch lacks a listed patch, and this is the first that it lacks
abbrev pub LacksOf : Contents → List ℕ → Option (List (List ℕ)) → List ℕ → Type 0
LacksOf state branch names name =
    (catches : List Catch) × Has state branch catches × (first_lacked catches (listed catches names) ≡ Some name)

-- a call takes this patch from a branch that lacks it
abbrev pub LacksPatch : Contents → Call → List ℕ → Type 0
LacksPatch state (call.Pull from to names) name = LacksOf state from names name
LacksPatch state (call.Obliterate branch names) name = LacksOf state branch (Some names) name
LacksPatch state other name = ⊥

-- a branch has each patch that would be pulled into it
abbrev pub HasAll : Contents → List ℕ → List ℕ → Option (List (List ℕ)) → Type 0
HasAll state from to names =
    (theirs : List Catch) × (ours : List Catch) × Has state from theirs × Has state to ours
    × (wanted ours (listed theirs names) ≡ [])

-- a call would change nothing
abbrev pub DoesNothing : Contents → Call → Type 0
DoesNothing state (call.Pull from to names) = HasAll state from to names
DoesNothing state (call.Obliterate branch names) = names ≡ []
DoesNothing state other = ⊥

-- patches can't be pulled or taken out, and this is why
abbrev pub IsBlockedBy : Contents → Call → Blocked → Type 0
IsBlockedBy state (call.Pull from to names) why =
    (theirs : List Catch) × (ours : List Catch) × Has state from theirs × Has state to ours
    × (pulled theirs ours (wanted ours (listed theirs names)) ≡ Err why)
IsBlockedBy state (call.Obliterate branch names) why =
    (catches : List Catch) × Has state branch catches × (obliterated catches names ≡ Err why)
IsBlockedBy state other why = ⊥

-- the refusal explains why patches can't be pulled or taken out
abbrev pub IsBlocked : Contents → Call → Refusal → Type 0
IsBlocked state request refusal = (why : Blocked) × (refusal_of why ≡ refusal) × IsBlockedBy state request why

-- a call pulls a branch into itself
abbrev pub PullsItself : Call → List ℕ → Type 0
PullsItself (call.Pull from to names) name = (from ≡ name) × (to ≡ name)
PullsItself other name = ⊥

-- what a refusal says of a call at a state is true
abbrev pub IsGround : Contents → Call → Refusal → Type 0
IsGround state request (refusal.NoBranch name) = LacksBranch state request name
IsGround state request (refusal.BranchExists name) = MakesAgain state request name
IsGround state request (refusal.PatchExists name) = RecordsAgain state request name
IsGround state request (refusal.NoPatch name) = LacksPatch state request name
IsGround state request refusal.NothingToDo = DoesNothing state request
IsGround state request refusal.TooLarge = IsExplained state request refusal.TooLarge
IsGround state request refusal.DoesNotApply = IsExplained state request refusal.DoesNotApply
IsGround state request (refusal.Depends patch on) = IsBlocked state request (refusal.Depends patch on)
IsGround state request (refusal.Diverged name) = IsBlocked state request (refusal.Diverged name)
IsGround state request (refusal.NoMerge left right) = IsBlocked state request (refusal.NoMerge left right)
IsGround state request (refusal.SameBranch name) = PullsItself request name

-- if a call is refused at a lawful state, what the refusal says is true
abbrev pub RefusalsHaveGrounds : Type 0
RefusalsHaveGrounds =
    (state : Contents) (request : Call) (refusal : Refusal) → IsLawfulState state → IsCall request → ChangesAreInRange request →
    step state request ≡ refused refusal → IsGround state request refusal
