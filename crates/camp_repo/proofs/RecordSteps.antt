-- The state after an accepted record.
use Rattle.camp_repo.proofs.Words.{◌≡◌, ℕ, false, List, ◌++◌, Ok, sym, subst, Files, Primitive, Catch, LeadsTo, has_patch, recorded, AppliesEach, Has, IsLawfulState, placed, Contents, after, stands, with_catches, changed, is_too_large, trees_are_determined}
use Rattle.camp_call.specs.declared.calls.Call.TheVariants as call
use Rattle.camp_repo.proofs.BranchSteps.{free_of_each, of_one}
use Rattle.camp_repo.proofs.DecideSteps.{next_lawful, record_accepted}
use Rattle.camp_repo.proofs.TreeSteps.{changes_apply}

-- a name that no branch has is not that of a patch of the branch
pub is_new : (state : Contents) (branch name : List ℕ) (catches : List Catch) → Has state branch catches → stands state.branches name ≡ false → has_patch catches name ≡ false
is_new state branch name catches has free =
    of_one (λ catches. has_patch catches name ≡ false) state.branches branch catches (free_of_each state.branches name free) has

-- the changes lead from whatever tree the branch leads to
pub leads_from : (catches : List Catch) (tree old new : Files) (changes lent : List Primitive) → LeadsTo catches tree → LeadsTo catches old → lent ≡ changes → Ok new ≡ changed changes tree → AppliesEach lent old new
leads_from catches tree old new changes lent leads other same e =
    subst (λ cs. AppliesEach cs old new) (sym same)
    (subst (λ t. AppliesEach changes t new) (trees_are_determined.one catches tree old leads other) (changes_apply changes tree new (sym e)))

-- the state after the record is lawful
pub record_keeps : (state : Contents) (branch name : List ℕ) (changes : List Primitive) (catches : List Catch) (tree next : Files) (place : ℕ) → Has state branch catches → stands state.branches name ≡ false → is_too_large state.limits.catches catches changes ≡ false → LeadsTo catches tree → Ok next ≡ changed changes tree → ((other : List Catch) → placed state.branches place other ≡ with_catches state.branches branch other) → IsLawfulState state → IsLawfulState (after state (placed state.branches place (catches ++ recorded name 1 changes)))
record_keeps state branch name changes catches tree next place has free small leads e there lawful =
    next_lawful state (call.Record branch name changes) _ lawful (record_accepted state branch name changes catches tree has free small leads next place e there)
