-- The result that a call would have, without executing it.
use Rattle.std.specs.Prelude.{◌≡◌, ◌⊎◌, ◌&&◌, ℕ, Bool, not, List, [], filter, Option, None, Some, MatchOption, bytes_eq}
use Rattle.std.specs.List.{list_any}
use Rattle.camp_call.specs.declared.calls.Call.{Call}
use Rattle.camp_call.specs.declared.calls.Call.TheVariants as call
use Rattle.camp_call.specs.declared.replies.Reply.TheVariants as reply
use Rattle.camp_object.specs.declared.objects.Decided.TheVariants.{Next, Answer}
use Rattle.camp_repo.specs.States.{Contents, catches_of}
use Rattle.camp_repo.specs.Steps.{Decision, step}
use Rattle.camp_repo.specs.Wanting.{CallMayWant}
use Rattle.camp_questions.specs.OpenConflicts.{AreUnresolvedIn}
use Rattle.camp_questions.specs.declared.foresight.Foreseen.{Foreseen}
use Rattle.camp_questions.specs.declared.foresight.BranchState.{BranchState}

-- the branch that a call writes to; a question writes to none
abbrev pub branch_written : Call → Option (List ℕ)
branch_written (call.Branch new from) = Some new
branch_written (call.Record branch name changes) = Some branch
branch_written (call.Pull from to names) = Some to
branch_written (call.Obliterate branch names) = Some branch
branch_written other = None

-- the answers of a branch to the questions for its tree and its conflicts
pub record IsBranchState (state : Contents) (standing : BranchState) : Type 0 where
  pub tree : step state (call.Tree standing.branch) ≡ Answer (reply.Tree standing.tree)
  pub conflicts : step state (call.Conflicts standing.branch) ≡ Answer (reply.Conflicts standing.conflicts)

-- the unresolved conflicts of a branch; none if there is no branch of the name
abbrev pub AreUnresolvedAt : Contents → List ℕ → List (List ℕ × List ℕ) → Type 0
AreUnresolvedAt state branch pairs =
    MatchOption (catches_of state.branches branch) (pairs ≡ []) (λ catches. AreUnresolvedIn catches pairs)

-- a pair with the same two names is in a list
abbrev pub is_pair_among : List (List ℕ × List ℕ) → List ℕ × List ℕ → Bool
is_pair_among pairs pair = list_any (λ other. bytes_eq pair.0 other.0 && bytes_eq pair.1 other.1) pairs

-- the pairs of one list that are not in another, in their order
abbrev pub pairs_without : List (List ℕ × List ℕ) → List (List ℕ × List ℕ) → List (List ℕ × List ℕ)
pairs_without others pairs = filter (λ pair. not (is_pair_among others pair)) pairs

-- from one state to the next, these conflicts of a branch become unresolved, and those are resolved or disappear
pub record OpensAndResolves (state next : Contents) (branch : List ℕ) (opened resolved : List (List ℕ × List ℕ)) : Type 0 where
  pub before : List (List ℕ × List ℕ)
  pub after : List (List ℕ × List ℕ)
  pub were : AreUnresolvedAt state branch before
  pub are : AreUnresolvedAt next branch after
  pub opens : opened ≡ pairs_without before after
  pub resolves : resolved ≡ pairs_without after before

-- a call would be accepted: its reply has the number of the next state; the branch that it writes to then has the
-- foreseen state, and its conflicts become unresolved, or stop being so, as foreseen
pub record ForeseesAcceptance (call : Call) (state next : Contents) (seen : Foreseen) : Type 0 where
  pub told : seen.reply ≡ reply.Done next.count
  pub standing : BranchState
  pub changed : seen.changed ≡ Some standing
  pub written : branch_written call ≡ Some standing.branch
  pub stands : IsBranchState next standing
  pub changes : OpensAndResolves state next standing.branch standing.opened standing.resolved

-- the foreseen result of a call, given its decision: if it is accepted, its reply and the branch that it writes to;
-- else the reply alone
abbrev pub ForeseesOf : Contents → Call → Decision → Foreseen → Type 0
ForeseesOf state call (Next next) seen = ForeseesAcceptance call state next seen
ForeseesOf state call (Answer answer) seen = (seen.reply ≡ answer) × (seen.changed ≡ None)

-- the foreseen result of a call at a state
abbrev pub Foresees : Contents → Call → Foreseen → Type 0
Foresees state call seen = ForeseesOf state call (step state call) seen

-- foreseeing a call may run out of memory if the call itself may, or if it would be accepted
abbrev pub MayWantForesight : Contents → Call → Type 0
MayWantForesight state call = CallMayWant state call ⊎ ((next : Contents) × (step state call ≡ Next next))
