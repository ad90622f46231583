-- The laws of limits: the result of a call that stays within a limit, and of one that would exceed it.
use Rattle.std.specs.Prelude.{◌≡◌, ℕ, ◌+◌, ◌<◌, ◌≤◌, true, false, List, [], ◌∷◌, ◌++◌, length, Option, None, Some, bytes_eq}
use Rattle.std.specs.List.{list_any}
use Rattle.camp_base.specs.Trees.{Files}
use Rattle.camp_prim.specs.declared.primitives.Primitive.{Primitive}
use Rattle.camp_catch.specs.declared.catches.Catch.{Catch}
use Rattle.camp_branch.specs.Branches.{first_lacked, recorded}
use Rattle.camp_call.specs.declared.calls.Call.TheVariants as call
use Rattle.camp_call.specs.declared.replies.Refusal.TheVariants.{TooLarge}
use Rattle.camp_repo.specs.Laws.{Has}
use Rattle.camp_repo.specs.Limits.{default_bounds}
use Rattle.camp_repo.specs.Outcomes.{pulled}
use Rattle.camp_repo.specs.States.{Contents, catches_of, stands, tree_of}
use Rattle.camp_repo.specs.Steps.{accepted, becomes, catches_named, changed, has_long_side, is_empty, is_patch_sized}
use Rattle.camp_repo.specs.Steps.{listed, record_leads, refused, step, wanted}

-- a pull passes the tests before that of the limit: both branches exist, they differ, and `from` has all listed names,
-- at least one of which `to` lacks
pub record CanPull (state : Contents) (from to : List ℕ) (names : Option (List (List ℕ))) (theirs ours : List Catch) : Type 0 where
  pub from_has : Has state from theirs
  pub to_has : Has state to ours
  pub are_two : bytes_eq from to ≡ false
  pub has_listed : first_lacked theirs (listed theirs names) ≡ None
  pub some_wanted : is_empty (wanted ours (listed theirs names)) ≡ false

-- a state has these limits on catches and branches: a call that passes all earlier tests is refused as too large
-- exactly if it would exceed a limit
pub record Holds (most_catches most_branches : ℕ) (state : Contents) : Type 0 where
  pub full : (new from : List ℕ) (catches : List Catch)
      → Has state from catches → catches_of state.branches new ≡ None → most_branches ≤ length state.branches →
      step state (call.Branch new from) ≡ refused TooLarge
  pub copies : (new from : List ℕ) (catches : List Catch)
      → Has state from catches → catches_of state.branches new ≡ None → length state.branches < most_branches →
      step state (call.Branch new from) ≡ accepted state (state.branches ++ (new, catches) ∷ [])
  pub full_to_record : (branch name : List ℕ) (changes : List Primitive) (catches : List Catch)
      → Has state branch catches → stands state.branches name ≡ false
      → most_catches < length catches + length changes → step state (call.Record branch name changes) ≡ refused TooLarge
  pub records : (branch name : List ℕ) (changes : List Primitive) (catches : List Catch) (tree : Files)
      → Has state branch catches → stands state.branches name ≡ false → tree_of catches ≡ Some tree
      → length catches + length changes ≤ most_catches → is_patch_sized changes ≡ true → list_any has_long_side changes ≡ false →
      step state (call.Record branch name changes) ≡
      record_leads state branch (catches ++ recorded name 1 changes) (changed changes tree)
  pub full_to_pull : (from to : List ℕ) (names : Option (List (List ℕ))) (theirs ours : List Catch)
      → CanPull state from to names theirs ours
      → most_catches < length ours + length (catches_named (wanted ours (listed theirs names)) theirs) →
      step state (call.Pull from to names) ≡ refused TooLarge
  pub pulls : (from to : List ℕ) (names : Option (List (List ℕ))) (theirs ours : List Catch)
      → CanPull state from to names theirs ours
      → length ours + length (catches_named (wanted ours (listed theirs names)) theirs) ≤ most_catches →
      step state (call.Pull from to names) ≡ becomes state to (pulled theirs ours (wanted ours (listed theirs names)))

-- the calls on a state obey the limits that are stored in it
abbrev pub StatesHoldTheirLimits : Type 0
StatesHoldTheirLimits = (state : Contents) → Holds state.limits.catches state.limits.branches state

-- a state without given limits allows at most 4,096 catches in a branch, and 256 branches
abbrev pub DefaultLimitsHold : Type 0
DefaultLimitsHold = (state : Contents) → state.limits ≡ default_bounds → Holds 4_096 256 state
