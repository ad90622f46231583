-- The branch that a question is about.
use Rattle.std.specs.Prelude.{◌≡◌, ℕ, List, None, Some, MatchOption}
use Rattle.camp_catch.specs.declared.catches.Catch.{Catch}
use Rattle.camp_branch.specs.Branches.{first_lacked}
use Rattle.camp_call.specs.declared.replies.Refusal.{Refusal}
use Rattle.camp_call.specs.declared.replies.Refusal.TheVariants.{NoBranch, NoPatch}
use Rattle.camp_repo.specs.States.{Contents, catches_of}

-- there is a branch of a name, with these catches, and it has the patches of all these names
pub record IsFound (state : Contents) (branch : List ℕ) (names : List (List ℕ)) (catches : List Catch) : Type 0 where
  pub is : catches_of state.branches branch ≡ Some catches
  pub has : first_lacked catches names ≡ None

-- a question is refused with this refusal: there is no branch of the name, or it lacks the patch of one of these names
abbrev pub IsRefused : Contents → List ℕ → List (List ℕ) → Refusal → Type 0
IsRefused state branch names refusal =
    MatchOption (catches_of state.branches branch) (refusal ≡ NoBranch branch) (λ catches.
    MatchOption (first_lacked catches names) ⊥ (λ name. refusal ≡ NoPatch name))
