-- What changes lead to, one at a time.
use Rattle.camp_repo.proofs.Words.{◌≡◌, ◌<◌, ◌+◌, ℕ, Bool, true, false, cond, List, drop, length, get_or, Option, None, Some, Result, Ok, Err, sym, ap, ◌∙◌, Files, applied, path_of, Primitive, stands_at, Refusal, changed, has_long_file, led_to, then_from, Applies, applied-from_Applies, applied-none, DoesNotApply, TooLarge}

module _ (changes : List Primitive) (i : ℕ) (change d : Primitive) (tree : Files) (aim : Result Files Refusal) (inv : changed (drop i changes) tree ≡ aim) (within : i < length changes) (is : change ≡ get_or changes i d) where
  here : (o : Option Files) → applied change tree ≡ o → aim ≡ then_from (led_to change o) (changed (drop (i + 1) changes))
  here o e =
      sym inv ∙ ap (λ cs. changed cs tree) (stands_at changes i d change within is) ∙ ap (λ o. then_from (led_to change o) (changed (drop (i + 1) changes))) e

  -- the change does not apply
  pub leads_nowhere : ((any : Files) → ¬ (Applies change tree any)) → Err DoesNotApply ≡ aim
  leads_nowhere never = sym (here None (applied-none change tree never))

  -- the file becomes too long
  pub leads_too_far : (next : Files) (long : Bool) → Applies change tree next → long ≡ has_long_file (path_of change) next → true ≡ long → Err TooLarge ≡ aim
  leads_too_far next long applies e is_long =
      sym (here (Some next) (applied-from_Applies change tree next applies) ∙ ap (λ b. then_from (cond b (Err TooLarge) (Ok next)) (changed (drop (i + 1) changes))) (sym e ∙ sym is_long))

  -- it leads on
  pub leads_to_next : (next : Files) (long : Bool) → Applies change tree next → long ≡ has_long_file (path_of change) next → false ≡ long → changed (drop (i + 1) changes) next ≡ aim
  leads_to_next next long applies e is_short =
      sym (here (Some next) (applied-from_Applies change tree next applies) ∙ ap (λ b. then_from (cond b (Err TooLarge) (Ok next)) (changed (drop (i + 1) changes))) (sym e ∙ sym is_short))
