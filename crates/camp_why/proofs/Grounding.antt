-- Refusals of calls, and their grounds.
use Rattle.std.specs.List.{AllByRecursion}
use Rattle.std.proofs.Common.{inl, inr}
use Rattle.std.specs.Prelude.{is_some}
use Rattle.camp_why.proofs.Words.{◌++◌, ◌≡◌, ◌∙◌, ◌∷◌, ℕ, Bool, true, false, List, [], None, Some, Option, Result, Ok, Err, ap, bytes_eq, bytes_eq-Decides, false≢true, length, ltb-true, nat_le, ◌+◌, option_map_or, refl, subst, sym, Files, InRange, Primitive}
use Rattle.camp_why.proofs.Causing.{is_large, stops}
use Rattle.camp_why.proofs.Stopping.{stops_with}
use Rattle.camp_branch.specs.Branches.{LeadsTo, first_lacked, recorded}
use Rattle.camp_branch.specs.Pulling.{Outcome}
use Rattle.camp_branch.specs.declared.faults.Blocked.{Blocked}
use Rattle.camp_branch.specs.declared.faults.Blocked.TheVariants as blocked
use Rattle.camp_catch.specs.declared.catches.Catch.{Catch}
use Rattle.camp_call.specs.Calls.{IsCall}
use Rattle.camp_call.specs.declared.calls.Call.{Call}
use Rattle.camp_call.specs.declared.calls.Call.TheVariants as call
use Rattle.camp_call.specs.declared.replies.Reply.TheVariants.{Refused}
use Rattle.camp_call.specs.declared.replies.Refusal.{Refusal}
use Rattle.camp_call.specs.declared.replies.Refusal.TheVariants.{BranchExists, Depends, Diverged, DoesNotApply, NoBranch, NoMerge, NoPatch, NothingToDo, PatchExists, SameBranch, TooLarge}
use Rattle.camp_object.specs.declared.objects.Decided.TheVariants.{Answer}
use Rattle.camp_repo.proofs.Effects.{lawful_branch}
use Rattle.camp_repo.proofs.TreeSteps.{tree_found}
use Rattle.camp_repo.specs.Laws.{Has}
use Rattle.camp_repo.specs.Lawful.{IsLawfulState}
use Rattle.camp_repo.specs.Outcomes.{obliterated, pulled}
use Rattle.camp_repo.specs.States.{Contents, catches_of, stands}
use Rattle.camp_repo.specs.Steps.{Decision, accepted, becomes, changed, is_empty, is_full_with, is_too_large, listed, record_leads, refusal_of, refused, refused_if, shown, step, wanted}
use Rattle.std.proofs.lemmas.Bool.{leb-true}
use Rattle.camp_why.specs.Causes.{brought, full_with_pull, is_of_changes, is_of_limit}
use Rattle.camp_why.specs.declared.causes.Cause.TheVariants.{FullRepository, FullWithPull}
use Rattle.camp_why.specs.Grounds.{IsBlockedBy, IsGround, RefusalsHaveGrounds}
use Rattle.camp_why.specs.Laws.{IsExplained, RefusalsAreExplained, wants_cause}
use Rattle.camp_why.specs.Stops.{refusal_at}
use Rattle.camp_why.specs.declared.stops.Hindrance.{Hindrance}
use Rattle.camp_why.specs.declared.stops.Hindrance.TheVariants as hindrance

-- ---- the test that refuses

-- whether a decision is a refusal
abbrev is_refusal : Decision → Bool
is_refusal (Answer (Refused refusal)) = true
is_refusal other = false

-- the refusal of a decision
abbrev refusal_in : Decision → Refusal
refusal_in (Answer (Refused refusal)) = refusal
refusal_in other = NothingToDo

same_refusal : (one other : Refusal) → refused one ≡ refused other → one ≡ other
same_refusal one other e = ap refusal_in e

module _ {X : Type 0} (refusal : Refusal) where
  not_refused : (decision : Decision) → is_refusal decision ≡ false → decision ≡ refused refusal → X
  not_refused decision none e = absurd (false≢true (sym none ∙ ap is_refusal e))

  by_branch : (found : Option (List Catch)) (name : List ℕ) (goes_on : List Catch → Decision)
      → option_map_or goes_on found (refused (NoBranch name)) ≡ refused refusal
      → (found ≡ None → NoBranch name ≡ refusal → X)
      → ((catches : List Catch) → found ≡ Some catches → goes_on catches ≡ refused refusal → X) → X
  by_branch None name goes_on e none some = none refl (same_refusal (NoBranch name) refusal e)
  by_branch (Some catches) name goes_on e none some = some catches refl e

  by_test : (b : Bool) (other : Refusal) (goes_on : Decision) → refused_if b other goes_on ≡ refused refusal
      → (b ≡ true → other ≡ refusal → X) → (b ≡ false → goes_on ≡ refused refusal → X) → X
  by_test true other goes_on e fails holds = fails refl (same_refusal other refusal e)
  by_test false other goes_on e fails holds = holds refl e

  by_patches : (lacked : Option (List ℕ)) (goes_on : Decision)
      → option_map_or (λ name. refused (NoPatch name)) lacked goes_on ≡ refused refusal
      → ((name : List ℕ) → lacked ≡ Some name → NoPatch name ≡ refusal → X)
      → (lacked ≡ None → goes_on ≡ refused refusal → X) → X
  by_patches None goes_on e lacks has = has refl e
  by_patches (Some name) goes_on e lacks has = lacks name refl (same_refusal (NoPatch name) refusal e)

  by_outcome : (state : Contents) (branch : List ℕ) (outcome : Outcome) → becomes state branch outcome ≡ refused refusal
      → ((why : Blocked) → outcome ≡ Err why → refusal_of why ≡ refusal → X) → X
  by_outcome state branch (Ok catches) e is = not_refused (becomes state branch (Ok catches)) refl e
  by_outcome state branch (Err why) e is = is why refl (same_refusal (refusal_of why) refusal e)

-- ---- the meaning of the tests

found_some : (found : Option (List Catch)) → is_some found ≡ true → (catches : List Catch) × (found ≡ Some catches)
found_some None e = absurd (false≢true e)
found_some (Some catches) e = (catches, refl)

none_in : (names : List (List ℕ)) → is_empty names ≡ true → names ≡ []
none_in [] e = refl
none_in (name ∷ names) e = absurd (false≢true e)

-- the cause of a stop is the ground of its refusal
stop_ground : (state : Contents) (request : Call) (why : Hindrance) → IsExplained state request (refusal_at why) → IsGround state request (refusal_at why)
stop_ground state request (hindrance.Misfit misfit) explains = explains
stop_ground state request (hindrance.TooLong count) explains = explains

-- what blocks a pull or an obliteration is the ground of its refusal
blocked_ground : (state : Contents) (request : Call) (why : Blocked) → IsBlockedBy state request why
    → IsGround state request (refusal_of why)
blocked_ground state request (blocked.Depends patch on) is = (blocked.Depends patch on, refl, is)
blocked_ground state request (blocked.Diverged name) is = (blocked.Diverged name, refl, is)
blocked_ground state request (blocked.NoMerge left right) is = (blocked.NoMerge left right, refl, is)

-- ---- call by call

module _ (state : Contents) (lawful : IsLawfulState state) (refusal : Refusal) where
  module _ (request : Call) where
    ground : (other : Refusal) → other ≡ refusal → IsGround state request other → IsGround state request refusal
    ground other same is = subst (IsGround state request) same is

  of_branch : (new from : List ℕ) → step state (call.Branch new from) ≡ refused refusal → IsGround state (call.Branch new from) refusal
  of_branch new from e =
      let request = call.Branch new from in
      by_branch refusal (catches_of state.branches from) from _ e
      (λ none same. ground request (NoBranch from) same (refl, none))
      (λ catches has e1. by_test refusal (is_some (catches_of state.branches new)) (BranchExists new) _ e1
      (λ there same. ground request (BranchExists new) same (refl, found_some (catches_of state.branches new) there))
      (λ free e2. by_test refusal (nat_le state.limits.branches (length state.branches)) TooLarge _ e2
      (λ full same. ground request TooLarge same (record {
        cause = FullRepository (length state.branches) state.limits.branches;
        reported = refl;
        of = refl;
        is_so = record { new = new; from = from; copies = refl; counts = refl; limit = refl; full = leb-true state.limits.branches (length state.branches) full };
      }))
      (λ room e3. not_refused refusal (accepted state (state.branches ++ (new, catches) ∷ [])) refl e3)))

  of_record : (branch name : List ℕ) (changes : List Primitive) → IsCall (call.Record branch name changes) → AllByRecursion InRange changes
      → step state (call.Record branch name changes) ≡ refused refusal → IsGround state (call.Record branch name changes) refusal
  of_record branch name changes size range e =
      let request = call.Record branch name changes in
      by_branch refusal (catches_of state.branches branch) branch _ e
      (λ none same. ground request (NoBranch branch) same (refl, none))
      (λ catches has e1. by_test refusal (stands state.branches name) (PatchExists name) _ e1
      (λ there same. ground request (PatchExists name) same (refl, there))
      (λ free e2. by_test refusal (is_too_large state.limits.catches catches changes) TooLarge _ e2
      (λ large same. ground request TooLarge same (is_large state branch name changes catches has large size))
      (λ small e3.
      let by = lawful_branch state lawful branch catches has in
      by_led catches has small by.tree by.leads (changed changes by.tree) refl
      (ap (λ found. option_map_or (λ tree. record_leads state branch (catches ++ recorded name 1 changes) (changed changes tree)) found (refused DoesNotApply))
      (sym (tree_found catches by.tree by.leads)) ∙ e3))))
    where
      by_led : (catches : List Catch) → Has state branch catches → is_too_large state.limits.catches catches changes ≡ false → (tree : Files) → LeadsTo catches tree
          → (led : Result Files Refusal) → changed changes tree ≡ led
          → record_leads state branch (catches ++ recorded name 1 changes) led ≡ refused refusal → IsGround state (call.Record branch name changes) refusal
      by_led catches has small tree leads (Ok next) is e = not_refused refusal (record_leads state branch (catches ++ recorded name 1 changes) (Ok next)) refl e
      by_led catches has small tree leads (Err why) is e =
          let with_stop = stops_with 1 changes tree why range is in
          ground (call.Record branch name changes) (refusal_at with_stop.stop.why) (with_stop.of ∙ same_refusal why refusal e)
          (stop_ground state (call.Record branch name changes) with_stop.stop.why (stops state branch name changes catches has small tree leads why with_stop))

  of_pull : (from to : List ℕ) (names : Option (List (List ℕ))) → step state (call.Pull from to names) ≡ refused refusal
      → IsGround state (call.Pull from to names) refusal
  of_pull from to names e =
      let request = call.Pull from to names in
      by_branch refusal (catches_of state.branches from) from _ e
      (λ none same. ground request (NoBranch from) same (inl refl, none))
      (λ theirs from_has e1. by_branch refusal (catches_of state.branches to) to _ e1
      (λ none same. ground request (NoBranch to) same (inr refl, none))
      (λ ours to_has e2. by_test refusal (bytes_eq from to) (SameBranch to) _ e2
      (λ one same. ground request (SameBranch to) same ((bytes_eq-Decides from to).0 one, refl))
      (λ two e3. by_patches refusal (first_lacked theirs (listed theirs names)) _ e3
      (λ name lacks same. ground request (NoPatch name) same (theirs, from_has, lacks))
      (λ all e4. by_test refusal (is_empty (wanted ours (listed theirs names))) NothingToDo _ e4
      (λ none same. ground request NothingToDo same (theirs, ours, from_has, to_has, none_in (wanted ours (listed theirs names)) none))
      (λ some e5. by_test refusal (is_full_with state.limits.catches ours theirs (wanted ours (listed theirs names))) TooLarge _ e5
      (λ full same. ground request TooLarge same (record {
        cause = FullWithPull (length ours) (length (brought theirs ours names)) state.limits.catches;
        reported = (λ j. full_with_pull state.limits.catches (from_has j) (to_has j) names);
        of = refl;
        is_so = record {
          from = from;
          to = to;
          names = names;
          pulls = refl;
          theirs = theirs;
          ours = ours;
          from_has = from_has;
          to_has = to_has;
          counts = refl;
          brings = refl;
          limit = refl;
          full = ltb-true state.limits.catches (length ours + length (brought theirs ours names)) full;
        };
      }))
      (λ room e6. by_outcome refusal state to (pulled theirs ours (wanted ours (listed theirs names))) e6
      (λ why is same. ground request (refusal_of why) same
      (blocked_ground state request why (theirs, ours, from_has, to_has, is)))))))))

  of_obliterate : (branch : List ℕ) (names : List (List ℕ)) → step state (call.Obliterate branch names) ≡ refused refusal
      → IsGround state (call.Obliterate branch names) refusal
  of_obliterate branch names e =
      let request = call.Obliterate branch names in
      by_branch refusal (catches_of state.branches branch) branch _ e
      (λ none same. ground request (NoBranch branch) same (refl, none))
      (λ catches has e1. by_patches refusal (first_lacked catches names) _ e1
      (λ name lacks same. ground request (NoPatch name) same (catches, has, lacks))
      (λ all e2. by_test refusal (is_empty names) NothingToDo _ e2
      (λ none same. ground request NothingToDo same (none_in names none))
      (λ some e3. by_outcome refusal state branch (obliterated catches names) e3
      (λ why is same. ground request (refusal_of why) same (blocked_ground state request why (catches, has, is))))))

  -- a question is refused only if there is no branch
  of_question : (request : Call) (branch : List ℕ) (reports : List Catch → Decision)
      → option_map_or reports (catches_of state.branches branch) (refused (NoBranch branch)) ≡ refused refusal
      → (catches_of state.branches branch ≡ None → IsGround state request (NoBranch branch))
      → ((catches : List Catch) → Has state branch catches → ¬ (reports catches ≡ refused refusal)) → IsGround state request refusal
  of_question request branch reports e lacks never =
      by_branch refusal (catches_of state.branches branch) branch reports e
      (λ none same. ground request (NoBranch branch) same (lacks none)) (λ catches has e1. absurd (never catches has e1))

pub have_grounds : RefusalsHaveGrounds
have_grounds state (call.Branch new from) refusal lawful is range e = of_branch state lawful refusal new from e
have_grounds state (call.Record branch name changes) refusal lawful is range e = of_record state lawful refusal branch name changes is range e
have_grounds state (call.Pull from to names) refusal lawful is range e = of_pull state lawful refusal from to names e
have_grounds state (call.Obliterate branch names) refusal lawful is range e = of_obliterate state lawful refusal branch names e
have_grounds state (call.Tree branch) refusal lawful is range e =
    of_question state lawful refusal (call.Tree branch) branch _ e (λ none. (refl, none)) (λ catches has e1.
    let by = lawful_branch state lawful branch catches has in
    not_refused refusal (shown (Some by.tree)) refl (ap shown (sym (tree_found catches by.tree by.leads)) ∙ e1))
have_grounds state (call.Conflicts branch) refusal lawful is range e =
    of_question state lawful refusal (call.Conflicts branch) branch _ e (λ none. (refl, none)) (λ catches has. not_refused refusal _ refl)
have_grounds state (call.Names branch) refusal lawful is range e =
    of_question state lawful refusal (call.Names branch) branch _ e (λ none. (refl, none)) (λ catches has. not_refused refusal _ refl)

-- ---- if a refusal does not say it all, its ground is a cause

unwanted : (request : Call) (refusal : Refusal) → is_of_changes refusal ≡ false → is_of_limit refusal ≡ false → wants_cause request refusal ≡ false
unwanted (call.Record branch name made) refusal changes limit = changes
unwanted other refusal changes limit = limit

ground_explains : (state : Contents) (request : Call) (refusal : Refusal) → IsGround state request refusal → wants_cause request refusal ≡ true → IsExplained state request refusal
ground_explains state request TooLarge is wants = is
ground_explains state request DoesNotApply is wants = is
ground_explains state request other is wants = absurd (false≢true (sym (unwanted request other refl refl) ∙ wants))

pub refusals_explained : RefusalsAreExplained
refusals_explained state request refusal lawful is range e wants =
    ground_explains state request refusal (have_grounds state request refusal lawful is range e) wants
