-- When a call may run out of memory: once it has passed the tests that read only names and numbers. Other calls do not
-- allocate.
use Rattle.std.specs.Prelude.{◌≡◌, ◌<◌, ℕ, Bool, false, List, length, Option, None, Some, bytes_eq}
use Rattle.std.specs.Option.{IsSomeAnd}
use Rattle.camp_catch.specs.declared.catches.Catch.{Catch}
use Rattle.camp_call.specs.declared.calls.Call.{Call}
use Rattle.camp_call.specs.declared.calls.Call.TheVariants as call
use Rattle.camp_repo.specs.States.{Contents, catches_of, stands}
use Rattle.camp_branch.specs.Branches.{first_lacked}
use Rattle.camp_repo.specs.Steps.{is_empty, is_too_large, listed}

-- there is a branch of this name, and the condition holds of its catches
abbrev pub HasBranch : Contents → List ℕ → (List Catch → Type 0) → Type 0
HasBranch state name P = IsSomeAnd (catches_of state.branches name) P

-- a branch with these catches has the patches of all these names
abbrev pub HasEachPatch : List (List ℕ) → List Catch → Type 0
HasEachPatch names catches = first_lacked catches names ≡ None

-- a list is given and empty
abbrev pub lists_none : Option (List (List ℕ)) → Bool
lists_none None = false
lists_none (Some names) = is_empty names

-- a copy may run out of memory only if it would be made
pub record MayWantCopy (state : Contents) (new from : List ℕ) : Type 0 where
  pub from_stands : HasBranch state from (λ catches. Unit {0})
  pub is_new : catches_of state.branches new ≡ None
  pub few : length state.branches < state.limits.branches

-- a record may run out of memory only if its branch exists, its name is free, and it is not too large for the branch
pub record MayWantRecord (state : Contents) (branch name : List ℕ) (too_large : List Catch → Bool) : Type 0 where
  pub fits : HasBranch state branch (λ catches. too_large catches ≡ false)
  pub is_free : stands state.branches name ≡ false

-- a pull may run out of memory only if its branches exist and differ, `from` has all listed patches, and some are
-- listed or there is no list
pub record MayWantPull (state : Contents) (from to : List ℕ) (names : Option (List (List ℕ))) : Type 0 where
  pub from_has : HasBranch state from (λ theirs. HasEachPatch (listed theirs names) theirs)
  pub to_stands : HasBranch state to (λ ours. Unit {0})
  pub are_two : bytes_eq from to ≡ false
  pub some : lists_none names ≡ false

-- an obliteration may run out of memory only if the branch has all listed patches, and at least one is listed
pub record MayWantObliterate (state : Contents) (branch : List ℕ) (names : List (List ℕ)) : Type 0 where
  pub has : HasBranch state branch (HasEachPatch names)
  pub some : is_empty names ≡ false

-- the call may run out of memory at this state
abbrev pub CallMayWant : Contents → Call → Type 0
CallMayWant state (call.Branch new from) = MayWantCopy state new from
CallMayWant state (call.Record branch name changes) =
    MayWantRecord state branch name (λ catches. is_too_large state.limits.catches catches changes)
CallMayWant state (call.Pull from to names) = MayWantPull state from to names
CallMayWant state (call.Obliterate branch names) = MayWantObliterate state branch names
CallMayWant state (call.Tree branch) = HasBranch state branch (λ catches. Unit {0})
CallMayWant state (call.Conflicts branch) = HasBranch state branch (λ catches. Unit {0})
CallMayWant state (call.Names branch) = HasBranch state branch (λ catches. Unit {0})
