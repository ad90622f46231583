-- A record of the changes of a side is accepted, unless it is too large.
use Rattle.camp_questions.proofs.Words.{◌≡◌, ◌⊎◌, ℕ, Bool, true, false, cond, List, [], ◌∷◌, ◌++◌, Result, Ok, Err, refl, sym, ap, ◌∙◌, inl, inr, Files, Primitive, Catch, LeadsTo, recorded, Contents, stands, step, with_catches, after, Has, Next, AppliesEach, Refusal, DoesNotApply, NoBranch, PatchExists, TooLarge, path_of, tree_of, Decision, changed, has_long_file, is_too_large, led_to, record_leads, refused, refused_if, then_from, KeepFilesShort, SidesAreAccepted, changes_in, subst, cond_both, cases_Bool}
use Rattle.std.specs.Option.{option_map_or}
use Rattle.camp_call.specs.declared.calls.Call.TheVariants as call
use Rattle.camp_prim.proofs.Applied.{applied-from_Applies}
use Rattle.camp_repo.proofs.TreeSteps.{tree_found}
use Rattle.camp_repo.proofs.StepsLawful.{trees_answered}
use Rattle.camp_questions.proofs.SidesApply.{sides_apply}

-- changes that apply lead to their tree, where no file gets too long
short_leads : (changes : List Primitive) (old new : Files) → AppliesEach changes old new → KeepFilesShort changes old → changed changes old ≡ Ok new
short_leads [] old new is short = ap Ok (sym is)
short_leads (change ∷ changes) old new (between, one, more) short =
    ap (λ o. then_from (led_to change o) (changed changes)) (applied-from_Applies change old between one)
    ∙ ap (λ b. then_from (cond b (Err TooLarge) (Ok between)) (changed changes)) (short between one).0
    ∙ short_leads changes between new more (short between one).1

-- and else to a refusal as too large
leads_or_large : (changes : List Primitive) (old new : Files) → AppliesEach changes old new → (changed changes old ≡ Ok new) ⊎ (changed changes old ≡ Err TooLarge)
leads_or_large [] old new is = inl (ap Ok (sym is))
leads_or_large (change ∷ changes) old new (between, one, more) =
    let Either : Result Files Refusal → Type 0 = λ led. (led ≡ Ok new) ⊎ (led ≡ Err TooLarge) in
    subst Either (sym (ap (λ o. then_from (led_to change o) (changed changes)) (applied-from_Applies change old between one)))
    (cond_both (has_long_file (path_of change) between) (Err TooLarge) (Ok between) (λ led. Either (then_from led (changed changes))) (λ long. inr refl) (λ short. leads_or_large changes between new more))

module _ (state : Contents) (branch new_name : List ℕ) (catches : List Catch) (tree : Files) (changes : List Primitive) (found : Has state branch catches) (fresh : stands state.branches new_name ≡ false) (leads : LeadsTo catches tree) where
  abbrev Accepted : Type 0
  Accepted = (next : Contents) × (step state (call.Record branch new_name changes) ≡ Next next)

  led_from : List Catch → Files → Decision
  led_from c from = record_leads state branch (c ++ recorded new_name 1 changes) (changed changes from)

  by_size_of : List Catch → Decision
  by_size_of c = refused_if (is_too_large state.limits.catches c changes) TooLarge (option_map_or (led_from c) (tree_of c) (refused DoesNotApply))

  goes_on : List Catch → Decision
  goes_on c = refused_if (stands state.branches new_name) (PatchExists new_name) (by_size_of c)

  -- the decision on the record, by its size and by what its changes lead to
  comes_to : (large : Bool) (led : Result Files Refusal) → is_too_large state.limits.catches catches changes ≡ large → changed changes tree ≡ led
      → step state (call.Record branch new_name changes) ≡ refused_if large TooLarge (record_leads state branch (catches ++ recorded new_name 1 changes) led)
  unfolding led_from by_size_of goes_on
  comes_to large led is leads_to =
      ap (λ o. option_map_or goes_on o (refused (NoBranch branch))) found
      ∙ ap (λ b. refused_if b (PatchExists new_name) (by_size_of catches)) fresh
      ∙ ap (λ b. refused_if b TooLarge (option_map_or (led_from catches) (tree_of catches) (refused DoesNotApply))) is
      ∙ ap (λ o. refused_if large TooLarge (option_map_or (led_from catches) o (refused DoesNotApply))) (tree_found catches tree leads)
      ∙ ap (λ r. refused_if large TooLarge (record_leads state branch (catches ++ recorded new_name 1 changes) r)) leads_to

  recorded_so : (next : Files) → is_too_large state.limits.catches catches changes ≡ false → changed changes tree ≡ Ok next → Accepted
  recorded_so next small led =
      (after state (with_catches state.branches branch (catches ++ recorded new_name 1 changes)), comes_to false (Ok next) small led)

  accepted_or_large : (next : Files) → AppliesEach changes tree next → Accepted ⊎ (step state (call.Record branch new_name changes) ≡ refused TooLarge)
  accepted_or_large next applies = elim (cases_Bool (is_too_large state.limits.catches catches changes)) [
    | inl large ↦ inr (comes_to true (changed changes tree) large refl)
    | inr small ↦ elim (leads_or_large changes tree next applies) [
      | inl led ↦ inl (recorded_so next small led)
      | inr long ↦ inr (comes_to false (Err TooLarge) small long)
    ]
  ]

pub sides_are_accepted : SidesAreAccepted
sides_are_accepted = record {
  within = λ state branch name new_name catches tree side lawful found leads is fresh small short.
      let applies = sides_apply catches tree name side leads is in
      recorded_so state branch new_name catches tree (changes_in side) found fresh leads applies.0 small (short_leads (changes_in side) tree applies.0 applies.1 short);
  else_too_large = λ state branch name new_name catches side lawful found is fresh.
      let own = trees_answered state branch catches lawful found in
      let applies = sides_apply catches own.0 name side own.1 is in
      accepted_or_large state branch new_name catches own.0 (changes_in side) found fresh own.1 applies.0 applies.1;
}
