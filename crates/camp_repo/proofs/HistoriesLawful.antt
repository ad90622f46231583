-- The state after a legal history of calls.
use Rattle.camp_repo.proofs.Words.{◌≡◌, ℕ, List, [], ◌∷◌, Option, None, Some, subst, refl, same_Some, option_and_then, Call, Next, Answer, IsLawfulState, repositories_are_lawful, sym, Contents, new_within, Decision, step, HistoriesAreCounted, HistoriesAreLawful, HistoriesKeepLimits, HistoriesGiveTrees, StepsKeepLimits, ◌∙◌, ap, Bounds}
use Rattle.camp_object.specs.Histories.{run}
use Rattle.camp_object.proofs.Replays.{count-replay}
use Rattle.camp_repo.specs.Objects.{next_of, repository_within}
use Rattle.camp_repo.specs.ObjectLaws.{limits_stay}
use Rattle.camp_repo.proofs.StepsLawful.{initial_lawful, steps_lawful, trees_answered}

-- a state that is there is lawful
abbrev IsLawfulIfThere : Option Contents → Type 0
IsLawfulIfThere o = (state : Contents) → o ≡ Some state → IsLawfulState state

-- the state after a decision
of_decision : (d : Decision) (state : Contents) → next_of d ≡ Some state → d ≡ Next state
of_decision (Next next) state is = rw (same_Some next state is) refl
of_decision (Answer answer) state is = cc

-- one more call keeps it lawful
one_more : (first : Option Contents) (call : Call) → IsLawfulIfThere first
    → IsLawfulIfThere (option_and_then (λ s. next_of (step s call)) first)
one_more None call lawful state there = cc
one_more (Some old) call lawful state there =
    steps_lawful old call state (lawful old refl) (of_decision (step old call) state there)

run_lawful : (limits : Bounds) (history : List (ℕ × Call)) (first : Option Contents) → IsLawfulIfThere first
    → IsLawfulIfThere (run (repository_within limits) first history)
run_lawful limits [] first lawful = lawful
run_lawful limits (entry ∷ entries) first lawful = run_lawful limits entries _ (one_more first entry.1 lawful)

pub histories_lawful : HistoriesAreLawful
histories_lawful limits history state replays =
    run_lawful limits history (Some (new_within limits))
    (λ first is. subst IsLawfulState (same_Some (new_within limits) first is) (initial_lawful limits)) state replays

pub histories_tell : HistoriesGiveTrees
histories_tell limits history state branch catches replays has =
    trees_answered state branch catches (histories_lawful limits history state replays) has

pub histories_counted : HistoriesAreCounted
histories_counted limits = count-replay (repository_within limits) (repositories_are_lawful limits)

-- an accepted call keeps the limits
pub steps_keep_limits : StepsKeepLimits
steps_keep_limits state call next is = limits_stay state call next (ap next_of is)

-- a state that is there has these limits
abbrev HasLimitsIfThere : Bounds → Option Contents → Type 0
HasLimitsIfThere limits o = (state : Contents) → o ≡ Some state → state.limits ≡ limits

keeps_if_there : (limits : Bounds) (first : Option Contents) (call : Call) → HasLimitsIfThere limits first
    → HasLimitsIfThere limits (option_and_then (λ s. next_of (step s call)) first)
keeps_if_there limits None call has state there = cc
keeps_if_there limits (Some old) call has state there = limits_stay old call state there ∙ has old refl

run_keeps_limits : (limits : Bounds) (history : List (ℕ × Call)) (first : Option Contents) → HasLimitsIfThere limits first
    → HasLimitsIfThere limits (run (repository_within limits) first history)
run_keeps_limits limits [] first has = has
run_keeps_limits limits (entry ∷ entries) first has =
    run_keeps_limits limits entries _ (keeps_if_there limits first entry.1 has)

pub histories_keep_limits : HistoriesKeepLimits
histories_keep_limits limits history state replays =
    run_keeps_limits limits history (Some (new_within limits))
    (λ first is. ap (λ s. s.limits) (sym (same_Some (new_within limits) first is))) state replays
