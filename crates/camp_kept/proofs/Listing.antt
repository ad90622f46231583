-- Accepted calls list a name, where they list names; so each can be read again.
use Rattle.std.proofs.Common.{◌≡◌, ◌≢◌, ℕ, List, [], ◌∷◌, ◌++◌, Option, None, Some, refl, sym, ◌∙◌, ap, subst, arith, IsSome, is_some, true≢false}
use Rattle.std.specs.List.{AllByRecursion}
use Rattle.std.specs.Option.{option_and_then}
use Rattle.camp_call.specs.declared.calls.Call.{Call}
use Rattle.camp_call.specs.declared.calls.Call.TheVariants as call
use Rattle.camp_call.specs.declared.replies.Reply.{Reply}
use Rattle.camp_kept.specs.Accepting.{AreAccepted, History, IsPrefixOf, StoreContents, alone}
use Rattle.camp_kept.specs.Titles.{CanBeLimits}
use Rattle.camp_object.specs.Histories.{IsLegal, run}
use Rattle.camp_object.specs.Objects.{IsFirst, Sequential, begun}
use Rattle.camp_object.proofs.Replays.{run-none}
use Rattle.camp_repo.proofs.AcceptedSteps.{obliterates_nothing, pulls_nothing}
use Rattle.camp_repo.specs.Limits.{Bounds}
use Rattle.camp_repo.specs.Objects.{next_of, repository, repository_within}
use Rattle.camp_repo.specs.States.{Contents, new_within}
use Rattle.camp_repo.specs.Steps.{step}
use Rattle.camp_script.specs.Canonical.{IsScriptCall}
use Rattle.camp_script.specs.Keeping.{CanBeInScript, ListsNames, calls_of}

-- an accepted call that lists names lists at least one
pub lists_names : (state : Contents) (c : Call) → next_of (step state c) ≢ None → ListsNames c
lists_names state (call.Branch new from) some = tt
lists_names state (call.Record branch name changes) some = tt
lists_names state (call.Pull from to None) some = tt
lists_names state (call.Pull from to (Some [])) some = absurd (some (pulls_nothing state from to))
lists_names state (call.Pull from to (Some (name ∷ names))) some = omega arith
lists_names state (call.Obliterate branch []) some = absurd (some (obliterates_nothing state branch))
lists_names state (call.Obliterate branch (name ∷ names)) some = omega arith
lists_names state (call.Tree branch) some = tt
lists_names state (call.Conflicts branch) some = tt
lists_names state (call.Names branch) some = tt

module _ (limits : Bounds) where
  abbrev object : Sequential Contents Call Reply
  object = repository_within limits

  -- whatever is accepted leads on
  leads_on : (next : Option Contents) (calls : List (ℕ × Call)) → IsSome (run object next calls) → next ≢ None
  leads_on next calls legal none = true≢false (sym (legal) ∙ ap is_some (ap (λ (o : Option Contents). run object o calls) none ∙ run-none object calls))

  all_list : (state : Option Contents) (calls : List Call) → IsSome (run object state (alone calls)) → AllByRecursion ListsNames calls
  all_list state [] legal = tt
  all_list None (c ∷ calls) legal = absurd (leads_on None (alone (c ∷ calls)) legal refl)
  all_list (Some state) (c ∷ calls) legal =
      (lists_names state c (leads_on (next_of (step state c)) (alone calls) legal), all_list (next_of (step state c)) calls legal)

  -- the seats of calls do not matter
  run_alone : (state : Option Contents) (history : List (ℕ × Call)) → run object state history ≡ run object state (alone (calls_of history))
  run_alone state [] = refl
  run_alone state (entry ∷ history) = run_alone (option_and_then (λ s. object.after s entry.1) state) history

both : (one two : List Call) → AllByRecursion IsScriptCall one → AllByRecursion CanBeInScript two → AllByRecursion ListsNames (one ++ two) → AllByRecursion IsScriptCall (one ++ two)
both [] [] can stand lists = tt
both [] (c ∷ two) can stand lists = (stand.0 lists.0, both [] two tt stand.1 lists.1)
both (c ∷ one) two can stand lists = (can.0, both one two can.1 stand lists.1)

-- the calls of a history are accepted by a new repository with the limits of its first state
pub legal_alone : (history : History) → IsFirst repository history.first → IsLegal (begun repository history.first) history.calls → IsLegal (repository_within history.first.limits) (alone (calls_of history.calls))
legal_alone history first legal =
    let limits = history.first.limits in
    let here = subst (λ (state : Contents). IsLegal (begun repository state) history.calls) (sym first.itself) legal in
    subst (λ (o : Option Contents). IsSome o) (run_alone limits (Some (new_within limits)) history.calls) here

-- accepted calls that a script can contain, and more
pub accepted_more : (some all : StoreContents) (front : IsPrefixOf some all) → CanBeLimits some.limits → AllByRecursion IsScriptCall some.calls → AllByRecursion CanBeInScript front.calls.rest
    → IsLegal (repository_within all.limits) (alone all.calls) → AreAccepted all
accepted_more some all front range can stand legal = record {
  range = subst CanBeLimits front.limits range;
  can = subst (λ (l : List Call). AllByRecursion IsScriptCall l) front.calls.makes (both some.calls front.calls.rest can stand (subst (λ (l : List Call). AllByRecursion ListsNames l) (sym front.calls.makes) (all_list all.limits (Some (new_within all.limits)) all.calls legal)));
  legal = legal;
}
