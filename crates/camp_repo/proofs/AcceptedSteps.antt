-- The tests that an accepted call has passed.
use Rattle.camp_repo.proofs.Words.{◌≡◌, ℕ, Bool, true, false, List, [], Option, None, Some, Result, Ok, Err, bytes_eq, refl, option_map_or, Files, Catch, Outcome, Refusal, Next, Has, Branches, Contents, after, catches_of, with_catches, NoBranch, NoPatch, SameBranch, first_lacked, Decision, accepted, becomes, record_leads, refused, refused_if, step, with_branch, with_patches}
use Rattle.camp_call.specs.declared.calls.Call.TheVariants as call
use Rattle.camp_repo.specs.Objects.{next_of}

module _ (state next : Contents) where
  has_at : (name : List ℕ) (goes_on : List Catch → Decision) (o : Option (List Catch)) → catches_of state.branches name ≡ o → option_map_or goes_on o (refused (NoBranch name)) ≡ Next next → (catches : List Catch) × Has state name catches × (goes_on catches ≡ Next next)
  has_at name goes_on None is e = cc
  has_at name goes_on (Some catches) is e = (catches, is, e)

  -- there is the branch
  pub has_branch : (name : List ℕ) (goes_on : List Catch → Decision) → with_branch state name goes_on ≡ Next next → (catches : List Catch) × Has state name catches × (goes_on catches ≡ Next next)
  has_branch name goes_on e = has_at name goes_on (catches_of state.branches name) refl e

  -- the test does not fail
  pub passes : (fails : Bool) (refusal : Refusal) (goes_on : Decision) → refused_if fails refusal goes_on ≡ Next next → (fails ≡ false) × (goes_on ≡ Next next)
  passes true refusal goes_on e = cc
  passes false refusal goes_on e = (refl, e)

  lacks_none_at : (o : Option (List ℕ)) (goes_on : Decision) → option_map_or (λ name. refused (NoPatch name)) o goes_on ≡ Next next → goes_on ≡ Next next
  lacks_none_at None goes_on e = e
  lacks_none_at (Some name) goes_on e = cc

  -- the branch has all listed patches
  pub lacks_none : (catches : List Catch) (names : List (List ℕ)) (goes_on : Decision) → with_patches catches names goes_on ≡ Next next → goes_on ≡ Next next
  lacks_none catches names goes_on e = lacks_none_at (first_lacked catches names) goes_on e

  -- the branch becomes an outcome
  pub becomes_other : (branch : List ℕ) (outcome : Outcome) → becomes state branch outcome ≡ Next next → (catches : List Catch) × (outcome ≡ Ok catches) × (accepted state (with_catches state.branches branch catches) ≡ Next next)
  becomes_other branch (Ok catches) e = (catches, refl, e)
  becomes_other branch (Err why) e = cc

  -- there is a tree
  pub has_tree : (o : Option Files) (goes_on : Files → Decision) (refusal : Refusal) → option_map_or goes_on o (refused refusal) ≡ Next next → (tree : Files) × (o ≡ Some tree) × (goes_on tree ≡ Next next)
  has_tree None goes_on refusal e = cc
  has_tree (Some tree) goes_on refusal e = (tree, refl, e)

  -- the changes lead to a tree
  pub leads_on : (branch : List ℕ) (catches : List Catch) (led : Result Files Refusal) → record_leads state branch catches led ≡ Next next → (tree : Files) × (led ≡ Ok tree) × (accepted state (with_catches state.branches branch catches) ≡ Next next)
  leads_on branch catches (Ok tree) e = (tree, refl, e)
  leads_on branch catches (Err refusal) e = cc

  -- an accepted call leads to the state after it
  pub next_is : (branches : Branches) → accepted state branches ≡ Next next → after state branches ≡ next
  next_is branches e = cc

none_with : (goes_on : List Catch → Decision) → ((catches : List Catch) → next_of (goes_on catches) ≡ None) → (found : Option (List Catch)) (refusal : Refusal) → next_of (option_map_or goes_on found (refused refusal)) ≡ None
none_with goes_on none None refusal = refl
none_with goes_on none (Some catches) refusal = none catches

none_if : (fails : Bool) (refusal : Refusal) (goes_on : Decision) → next_of goes_on ≡ None → next_of (refused_if fails refusal goes_on) ≡ None
none_if true refusal goes_on none = refl
none_if false refusal goes_on none = none

-- a call that lists no name leads nowhere
pub obliterates_nothing : (state : Contents) (branch : List ℕ) → next_of (step state (call.Obliterate branch [])) ≡ None
obliterates_nothing state branch = none_with _ (λ k. refl) (catches_of state.branches branch) (NoBranch branch)

pub pulls_nothing : (state : Contents) (from to : List ℕ) → next_of (step state (call.Pull from to (Some []))) ≡ None
pulls_nothing state from to =
    none_with _ (λ theirs. none_with _ (λ ours. none_if (bytes_eq from to) (SameBranch to) _ refl) (catches_of state.branches to) (NoBranch to)) (catches_of state.branches from) (NoBranch from)
