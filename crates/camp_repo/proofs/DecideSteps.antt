-- What the functions that decide have found, and what the step is then.
use Rattle.camp_repo.proofs.Words.{◌≡◌, ℕ, true, false, List, ◌++◌, Option, None, Ok, Err, bytes_eq, refl, sym, ap, ◌∙◌, Files, Primitive, Catch, LeadsTo, recorded, ObliterateGives, Outcome, PullGives, conflicts_are_determined, outcomes_are_determined, Call, Refusal, Next, Answer, Has, IsLawfulState, obliterated, pulled, placed, settled, Contents, after, stands, with_catches, first_lacked, becomes, changed, is_empty, is_full_with, is_too_large, listed, record_leads, refused, step, step_obliterate, step_pull, step_record, wanted}
use Rattle.camp_branch.specs.Conflicting.{AreConflicts}
use Rattle.camp_call.specs.declared.calls.Call.TheVariants as call
use Rattle.camp_call.specs.declared.replies.Reply.TheVariants as reply
use Rattle.camp_repo.proofs.ByMembers.{AreAlike, obliterate_alike, pull_alike}
use Rattle.camp_repo.proofs.StateSteps.{settled_by_name}
use Rattle.camp_repo.proofs.StepsLawful.{steps_lawful}
use Rattle.camp_repo.proofs.TreeSteps.{tree_found}

-- the tree of a branch is shown
pub tree_shown : (state : Contents) (name : List ℕ) (catches : List Catch) (tree copy : Files) → Has state name catches → LeadsTo catches tree → copy ≡ tree → Answer (reply.Tree copy) ≡ step state (call.Tree name)
tree_shown state name catches tree copy has leads same =
    let found = tree_found catches tree leads in
    rw has (rw found (ap (λ t. Answer (reply.Tree t)) same))

-- the conflicts of a branch are shown
pub conflicts_shown : (state : Contents) (name : List ℕ) (catches : List Catch) (pairs : List (List ℕ × List ℕ)) → Has state name catches → AreConflicts catches pairs → Answer (reply.Conflicts pairs) ≡ step state (call.Conflicts name)
conflicts_shown state name catches pairs has are =
    rw has (ap (λ l. Answer (reply.Conflicts l)) ((conflicts_are_determined catches).2 pairs are))

-- a call that is accepted leads to a lawful state
pub next_lawful : (state : Contents) (call : Call) (next : Contents) → IsLawfulState state → Next next ≡ step state call → IsLawfulState next
next_lawful state call next lawful e = steps_lawful state call next lawful (sym e)

module _ (state : Contents) (branch name : List ℕ) (changes : List Primitive) (catches : List Catch) (tree : Files) (has : Has state branch catches) (free : stands state.branches name ≡ false) (small : is_too_large state.limits.catches catches changes ≡ false) (leads : LeadsTo catches tree) where
  -- the decision on the record is that of its changes
  pub record_comes : record_leads state branch (catches ++ recorded name 1 changes) (changed changes tree) ≡ step_record state branch name changes
  record_comes =
      let found = tree_found catches tree leads in
      rw has (rw free (rw small (rw found refl)))

  pub record_refused : (refusal : Refusal) → Err refusal ≡ changed changes tree → refused refusal ≡ step_record state branch name changes
  record_refused refusal e = ap (record_leads state branch (catches ++ recorded name 1 changes)) e ∙ record_comes

  pub record_accepted : (next : Files) (place : ℕ) → Ok next ≡ changed changes tree → ((other : List Catch) → placed state.branches place other ≡ with_catches state.branches branch other) → Next (after state (placed state.branches place (catches ++ recorded name 1 changes))) ≡ step_record state branch name changes
  record_accepted next place e there =
      ap (λ bs. Next (after state bs)) (there (catches ++ recorded name 1 changes)) ∙ ap (record_leads state branch (catches ++ recorded name 1 changes)) e ∙ record_comes

module _ (state : Contents) (from to : List ℕ) (names : Option (List (List ℕ))) (theirs ours : List Catch) (has_theirs : Has state from theirs) (has_ours : Has state to ours) (two : bytes_eq from to ≡ false) (all : first_lacked theirs (listed theirs names) ≡ None) where
  -- nothing is wanted
  pub pull_nothing : is_empty (wanted ours (listed theirs names)) ≡ true → refused Refusal.NothingToDo ≡ step_pull state from to names
  pull_nothing none = rw has_theirs (rw has_ours (rw two (rw all (rw none refl))))

  module _ (some : is_empty (wanted ours (listed theirs names)) ≡ false) where
    -- the branch would be too long
    pub pull_too_large : is_full_with state.limits.catches ours theirs (wanted ours (listed theirs names)) ≡ true → refused Refusal.TooLarge ≡ step_pull state from to names
    pull_too_large full = rw has_theirs (rw has_ours (rw two (rw all (rw some (rw full refl)))))

    module _ (few : is_full_with state.limits.catches ours theirs (wanted ours (listed theirs names)) ≡ false) (set : List (List ℕ)) (alike : AreAlike set (wanted ours (listed theirs names))) (outcome : Outcome) (gives : PullGives theirs ours set outcome) where
      is_pulled : outcome ≡ pulled theirs ours (wanted ours (listed theirs names))
      is_pulled =
          (outcomes_are_determined.pulls theirs ours (wanted ours (listed theirs names))).2 outcome
          (pull_alike set (wanted ours (listed theirs names)) alike theirs ours outcome gives)

      -- the decision on the pull is its outcome
      pub pull_comes : becomes state to outcome ≡ step_pull state from to names
      pull_comes =
          ap (becomes state to) is_pulled ∙ rw has_theirs (rw has_ours (rw two (rw all (rw some (rw few refl)))))

      module _ (place : ℕ) (there : (other : List Catch) → placed state.branches place other ≡ with_catches state.branches to other) where
        pub pull_settles : settled state place outcome ≡ step_pull state from to names
        pull_settles = settled_by_name state to place outcome there ∙ pull_comes

module _ (state : Contents) (branch : List ℕ) (names : List (List ℕ)) (catches : List Catch) (has : Has state branch catches) (all : first_lacked catches names ≡ None) (some : is_empty names ≡ false) (set : List (List ℕ)) (alike : AreAlike set names) (outcome : Outcome) (gives : ObliterateGives catches set outcome) where
  is_obliterated : outcome ≡ obliterated catches names
  is_obliterated =
      (outcomes_are_determined.obliterates catches names).2 outcome (obliterate_alike set names alike catches outcome gives)

  -- the decision on the obliteration is its outcome
  pub obliterate_comes : becomes state branch outcome ≡ step_obliterate state branch names
  obliterate_comes = ap (becomes state branch) is_obliterated ∙ rw has (rw all (rw some refl))

  module _ (place : ℕ) (there : (other : List Catch) → placed state.branches place other ≡ with_catches state.branches branch other) where
    pub obliterate_settles : settled state place outcome ≡ step_obliterate state branch names
    obliterate_settles = settled_by_name state branch place outcome there ∙ obliterate_comes
