-- What callers that ask questions conclude.
use Rattle.std.specs.Prelude.{◌≡◌, ℕ, true, List, [], ◌∷◌, Option, None, Some, MatchOption, Ok}
use Rattle.camp_catch.specs.declared.catches.Catch.{Catch}
use Rattle.camp_branch.specs.Branches.{first_lacked, has_patch, is_among, names_of}
use Rattle.camp_branch.specs.Obliterating.{other_names}
use Rattle.camp_call.specs.Patches.{IsPatchSized}
use Rattle.camp_call.specs.declared.calls.Call.{Call}
use Rattle.camp_call.specs.declared.calls.Call.TheVariants as call
use Rattle.camp_call.specs.declared.replies.Refusal.{Refusal}
use Rattle.camp_call.specs.declared.replies.Refusal.TheVariants.{NoBranch, BranchExists, PatchExists, NoPatch}
use Rattle.camp_call.specs.declared.replies.Refusal.TheVariants.{NothingToDo, TooLarge, DoesNotApply, Depends}
use Rattle.camp_call.specs.declared.replies.Refusal.TheVariants.{Diverged, NoMerge, SameBranch}
use Rattle.camp_call.specs.declared.replies.Reply.{Reply}
use Rattle.camp_call.specs.declared.replies.Reply.TheVariants as reply
use Rattle.camp_repo.specs.Laws.{Has, Pulls}
use Rattle.camp_repo.specs.States.{Contents, catches_of}
use Rattle.camp_questions.specs.Along.{AreNamesToPull}
use Rattle.camp_questions.specs.Answers.{AnswerOf, OfBranch, OfPatches}
use Rattle.camp_questions.specs.Dependencies.{HeldBy}
use Rattle.camp_questions.specs.Showing.{patch_in}
use Rattle.camp_questions.specs.declared.faults.Unanswered.{Unanswered}
use Rattle.camp_questions.specs.declared.faults.Unanswered.TheVariants.{Refused, Memory}

-- a reply is a refusal
abbrev pub IsRefusal : Reply → Type 0
IsRefusal told = (refusal : Refusal) × (told ≡ reply.Refused refusal)

-- a branch has all patches of some names
abbrev pub HasThem : List Catch → List (List ℕ) → Type 0
HasThem catches names = (name : List ℕ) → is_among names name ≡ true → has_patch catches name ≡ true

-- exactly the dependencies of some names were pulled: the branch has its own patches and then those, and therefore all
-- that were named
pub record PullsAlong (state : Contents) (from to : List ℕ) (names : List (List ℕ)) (next : Contents) : Type 0 where
  pub theirs : List Catch
  pub from_has : Has state from theirs
  pub ours : List Catch
  pub to_has : Has state to ours
  pub told : List (List ℕ)
  pub comes : AreNamesToPull theirs ours names told
  pub pulls : Pulls from to (Some told) state next
  pub new : List Catch
  pub becomes : Has next to new
  pub has_names : HasThem new names
  pub has_told : HasThem new told

-- why a pull of patches with their dependencies may be refused: for a missing patch only if the other branch lacks a
-- named one; as having nothing to do only if all named ones are there; and never because one depends on another
abbrev pub MayRefuseFor : Contents → List ℕ → List ℕ → List (List ℕ) → Refusal → Type 0
MayRefuseFor state from to names (NoBranch name) = catches_of state.branches name ≡ None
MayRefuseFor state from to names (NoPatch name) =
    (theirs : List Catch) × Has state from theirs × (first_lacked theirs names ≡ Some name)
MayRefuseFor state from to names (SameBranch name) = from ≡ to
MayRefuseFor state from to names NothingToDo = (ours : List Catch) × Has state to ours × HasThem ours names
MayRefuseFor state from to names TooLarge = Unit {0}
MayRefuseFor state from to names (Depends patch on) = ⊥
MayRefuseFor state from to names (Diverged name) = Unit {0}
MayRefuseFor state from to names (NoMerge left right) = Unit {0}
MayRefuseFor state from to names (BranchExists name) = ⊥
MayRefuseFor state from to names (PatchExists name) = ⊥
MayRefuseFor state from to names DoesNotApply = ⊥

-- a pull of patches with their dependencies is refused for one of the reasons of `MayRefuseFor`, or memory ran out
abbrev pub MayRefuse : Contents → List ℕ → List ℕ → List (List ℕ) → Unanswered → Type 0
MayRefuse state from to names (Refused refusal) = MayRefuseFor state from to names refusal
MayRefuse state from to names Memory = Unit {0}

-- in the next state a branch has exactly the patches that are not dependents of some names
abbrev pub LeavesOthers : List ℕ → List Catch → List (List ℕ) → Contents → Type 0
LeavesOthers branch catches names next =
    (held : List (List ℕ)) × HeldBy catches names held
    × ((left : List Catch) × Has next branch left × (names_of left ≡ other_names catches held))

-- patches are taken out of a branch together with all their dependents
abbrev pub GoesWithHeld : Contents → List ℕ → List (List ℕ) → AnswerOf Contents → Type 0
GoesWithHeld state branch names =
    OfBranch state branch (λ catches.
    OfPatches catches names (λ answer. (next : Contents) × (answer ≡ Ok next) × LeavesOthers branch catches names next))

-- a script of one call, which records the changes of a patch as it is shown; none if there are too many or no changes
abbrev pub IsReadBack : Contents → List ℕ → List ℕ → List ℕ → Option (List (List Call)) → Type 0
IsReadBack state branch name to found =
    (catches : List Catch) × Has state branch catches
    × MatchOption found
    (¬ (IsPatchSized (patch_in catches name).changes))
    (λ script. script ≡ (call.Record to name (patch_in catches name).changes ∷ []) ∷ [])
