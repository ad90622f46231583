-- The repository is lawful as an object.
use Rattle.std.proofs.Common.{◌≡◌, ℕ, ◌+◌, Bool, true, false, List, ◌++◌, Option, None, Some, Result}
use Rattle.std.proofs.Common.{Ok, Err, ap, bytes_eq, is_some, length, nat_le, refl, subst}
use Rattle.std.proofs.lemmas.Option.{same_Some}
use Rattle.std.specs.Option.{option_map_or}
use Rattle.camp_base.specs.Trees.{Files}
use Rattle.camp_catch.specs.declared.catches.Catch.{Catch}
use Rattle.camp_branch.specs.Branches.{first_lacked, recorded}
use Rattle.camp_branch.specs.Pulling.{Outcome}
use Rattle.camp_call.specs.Calls.{is_writing}
use Rattle.camp_call.specs.declared.calls.Call.{Call}
use Rattle.camp_call.specs.declared.calls.Call.TheVariants as call
use Rattle.camp_call.specs.declared.replies.Reply.{Reply}
use Rattle.camp_call.specs.declared.replies.Reply.TheVariants as reply
use Rattle.camp_call.specs.declared.replies.Refusal.{Refusal}
use Rattle.camp_call.specs.declared.replies.Refusal.TheVariants.{BranchExists, DoesNotApply, NoBranch, NoPatch}
use Rattle.camp_call.specs.declared.replies.Refusal.TheVariants.{NothingToDo, PatchExists, SameBranch, TooLarge}
use Rattle.camp_object.specs.Objects.{IsLawfulObject}
use Rattle.camp_object.specs.declared.objects.Decided.TheVariants.{Next, Answer}
use Rattle.camp_repo.specs.Limits.{Bounds, default_bounds}
use Rattle.camp_repo.specs.Objects.{next_of, reply_number, repository, repository_within}
use Rattle.camp_repo.specs.Outcomes.{obliterated, pulled}
use Rattle.camp_repo.specs.States.{Contents, after, catches_of, new_within, stands, tree_of, with_catches}
use Rattle.camp_repo.specs.Steps.{Decision, becomes, changed, is_empty, is_full_with, is_too_large}
use Rattle.camp_repo.specs.Steps.{listed, record_leads, refused, refused_if, shown, step, wanted}

-- P holds of the next state if the decision is one, and Q of the reply if the decision is one
abbrev pub Comes : (Contents → Type 0) → (Reply → Type 0) → Decision → Type 0
Comes P Q (Next state) = P state
Comes P Q (Answer answer) = Q answer

module _ (P : Contents → Type 0) (Q : Reply → Type 0) (refusals : (refusal : Refusal) → Q (reply.Refused refusal)) where
  of_branch : (name : List ℕ) (goes_on : List Catch → Decision) (o : Option (List Catch)) → ((catches : List Catch)
      → Comes P Q (goes_on catches)) → Comes P Q (option_map_or goes_on o (refused (NoBranch name)))
  of_branch name goes_on None on = refusals (NoBranch name)
  of_branch name goes_on (Some catches) on = on catches

  past_test : (fails : Bool) (refusal : Refusal) (goes_on : Decision) → Comes P Q goes_on
      → Comes P Q (refused_if fails refusal goes_on)
  past_test true refusal goes_on on = refusals refusal
  past_test false refusal goes_on on = on

  past_names : (o : Option (List ℕ)) (goes_on : Decision) → Comes P Q goes_on
      → Comes P Q (option_map_or (λ name. refused (NoPatch name)) o goes_on)
  past_names None goes_on on = on
  past_names (Some name) goes_on on = refusals (NoPatch name)

  by_outcome : (state : Contents) (branch : List ℕ) (outcome : Outcome) → ((catches : List Catch)
      → P (after state (with_catches state.branches branch catches))) → Comes P Q (becomes state branch outcome)
  by_outcome state branch (Ok catches) on = on catches
  by_outcome state branch (Err why) on = refusals _

  by_tree : (state : Contents) (branch : List ℕ) (catches : List Catch) (led : Result Files Refusal)
      → P (after state (with_catches state.branches branch catches)) → Comes P Q (record_leads state branch catches led)
  by_tree state branch catches (Ok tree) on = on
  by_tree state branch catches (Err refusal) on = refusals refusal

  from_tree : (o : Option Files) (goes_on : Files → Decision) → ((tree : Files) → Comes P Q (goes_on tree))
      → Comes P Q (option_map_or goes_on o (refused DoesNotApply))
  from_tree None goes_on on = refusals DoesNotApply
  from_tree (Some tree) goes_on on = on tree

  by_shown : (o : Option Files) → ((tree : Files) → Q (reply.Tree tree)) → Comes P Q (shown o)
  by_shown None on = refusals DoesNotApply
  by_shown (Some tree) on = on tree

-- the next state counts one more call, which writes; the limits are unchanged
abbrev pub CountsOne : Contents → Call → Contents → Type 0
CountsOne state call next =
    (next.count ≡ state.count + 1) × (is_writing call ≡ true) × (next.limits ≡ state.limits)

-- the reply contains no number of a call
abbrev pub HasNoNumber : Reply → Type 0
HasNoNumber answer = reply_number answer ≡ None

none_told : (refusal : Refusal) → HasNoNumber (reply.Refused refusal)
none_told refusal = refl

pub step_comes : (state : Contents) (call : Call) → Comes (CountsOne state call) HasNoNumber (step state call)
step_comes state (call.Branch new from) =
    let P = CountsOne state (call.Branch new from) in
    of_branch P HasNoNumber none_told from _ (catches_of state.branches from)
    (λ catches. past_test P HasNoNumber none_told (is_some (catches_of state.branches new)) (BranchExists new) _
    (past_test P HasNoNumber none_told (nat_le state.limits.branches (length state.branches)) TooLarge _ (refl, refl, refl)))
step_comes state (call.Record branch name changes) =
    let P = CountsOne state (call.Record branch name changes) in
    of_branch P HasNoNumber none_told branch _ (catches_of state.branches branch)
    (λ catches. past_test P HasNoNumber none_told (stands state.branches name) (PatchExists name) _
    (past_test P HasNoNumber none_told (is_too_large state.limits.catches catches changes) TooLarge _
    (from_tree P HasNoNumber none_told (tree_of catches) _
    (λ tree. by_tree P HasNoNumber none_told state branch (catches ++ recorded name 1 changes) (changed changes tree)
    (refl, refl, refl)))))
step_comes state (call.Pull from to names) =
    let P = CountsOne state (call.Pull from to names) in
    of_branch P HasNoNumber none_told from _ (catches_of state.branches from)
    (λ theirs. of_branch P HasNoNumber none_told to _ (catches_of state.branches to)
    (λ ours. past_test P HasNoNumber none_told (bytes_eq from to) (SameBranch to) _
    (past_names P HasNoNumber none_told (first_lacked theirs (listed theirs names)) _
    (past_test P HasNoNumber none_told (is_empty (wanted ours (listed theirs names))) NothingToDo _
    (past_test P HasNoNumber none_told (is_full_with state.limits.catches ours theirs (wanted ours (listed theirs names))) TooLarge _
    (by_outcome P HasNoNumber none_told state to (pulled theirs ours (wanted ours (listed theirs names))) (λ catches.
    (refl, refl, refl))))))))
step_comes state (call.Obliterate branch names) =
    let P = CountsOne state (call.Obliterate branch names) in
    of_branch P HasNoNumber none_told branch _ (catches_of state.branches branch)
    (λ catches. past_names P HasNoNumber none_told (first_lacked catches names) _
    (past_test P HasNoNumber none_told (is_empty names) NothingToDo _
    (by_outcome P HasNoNumber none_told state branch (obliterated catches names) (λ left. (refl, refl, refl)))))
step_comes state (call.Tree branch) =
    let P = CountsOne state (call.Tree branch) in
    of_branch P HasNoNumber none_told branch _ (catches_of state.branches branch)
    (λ catches. by_shown P HasNoNumber none_told (tree_of catches) (λ tree. refl))
step_comes state (call.Conflicts branch) =
    of_branch (CountsOne state (call.Conflicts branch)) HasNoNumber none_told branch _ (catches_of state.branches branch)
    (λ catches. refl)
step_comes state (call.Names branch) =
    of_branch (CountsOne state (call.Names branch)) HasNoNumber none_told branch _ (catches_of state.branches branch)
    (λ catches. refl)

on_next : (P : Contents → Type 0) (Q : Reply → Type 0) (d : Decision) (next : Contents) → Comes P Q d
    → next_of d ≡ Some next → P next
on_next P Q (Next state) next comes is = subst P (same_Some _ _ is) comes
on_next P Q (Answer answer) next comes is = cc

-- an accepted call keeps the limits
pub limits_stay : (state : Contents) (call : Call) (next : Contents) → next_of (step state call) ≡ Some next
    → next.limits ≡ state.limits
limits_stay state call next is = (on_next (CountsOne state call) HasNoNumber (step state call) next (step_comes state call) is).2

tells_exactly : (answer : Reply) (at : ℕ) → reply_number answer ≡ Some at → answer ≡ reply.Done at
tells_exactly (reply.Done other) at is = cc
tells_exactly (reply.Refused refusal) at is = cc
tells_exactly (reply.Tree tree) at is = cc
tells_exactly (reply.Conflicts pairs) at is = cc
tells_exactly (reply.Names names) at is = cc

pub repositories_are_lawful : (limits : Bounds) → IsLawfulObject (repository_within limits)
repositories_are_lawful limits = record {
  starts = refl;
  counts = λ state call next is. (on_next (CountsOne state call) HasNoNumber (step state call) next
      (step_comes state call) is).0;
  begins = refl;
  stays = λ state call next is. ap new_within (limits_stay state call next is);
  writes = λ state call next is. (on_next (CountsOne state call) HasNoNumber (step state call) next
      (step_comes state call) is).1;
  tells = λ at. refl;
  tells_exactly = tells_exactly;
  tells_none = λ state call answer is. subst (Comes (CountsOne state call) HasNoNumber) is (step_comes state call);
}

pub repository_is_lawful : IsLawfulObject repository
repository_is_lawful = repositories_are_lawful default_bounds
