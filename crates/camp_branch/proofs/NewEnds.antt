-- Branches whose last catches are brought into another order, and then end before some of them.
use Rattle.camp_branch.proofs.Words.{◌≡◌, ◌++◌, ℕ, List, take, drop, length, flat_map, sym, ap, ◌∙◌, subst, arith, append-nil, drop_all, take-append-drop, empty, splice, Files, AppliesAll, Arrange, FitsAll, effect_of, Catch, lists_keep_effects, LeadsTo}
use Rattle.camp_branch.proofs.BranchTrees.{joined_fits, tree_of_effects}
use Rattle.camp_branch.proofs.EffectSteps.{second_fits, one_start}

-- the list with another end
pub end_replaced : (catches own new next : List Catch) (start n : ℕ) → n ≡ length catches → catches ≡ own → next ≡ splice catches start n new → next ≡ take start own ++ new
end_replaced catches own new next start n is was becomes =
    becomes ∙ ap (λ t. take start catches ++ (new ++ t)) (drop_all n catches (omega (is, arith))) ∙ ap (λ t. take start catches ++ t) (append-nil new) ∙ ap (λ l. take start l ++ new) was

-- the catches that go are after all others
module _ (front gone : List Catch) (tree : Files) (leads : LeadsTo (front ++ gone) tree) where
  parts : (between : Files) × FitsAll front empty between × FitsAll gone between tree
  parts = second_fits front gone empty tree leads

  -- their effects led to the tree
  pub end_led : (before : Files) × AppliesAll (flat_map effect_of gone) before tree
  end_led = (parts.0, tree_of_effects gone parts.0 tree parts.2)

  -- the others lead to the tree from which they led there
  pub front_leads : (before : Files) → AppliesAll (flat_map effect_of gone) before tree → LeadsTo front before
  front_leads before led =
      subst (FitsAll front empty) (one_start (flat_map effect_of gone) parts.0 before tree (tree_of_effects gone parts.0 tree parts.2) led) parts.1

-- the last catches of a branch in another order lead to its tree
pub end_arranged : (names : List (List ℕ)) (own behind first rest : List Catch) (start : ℕ) (tree : Files) → behind ≡ drop start own → Arrange names behind first rest → LeadsTo own tree → LeadsTo ((take start own ++ first) ++ rest) tree
end_arranged names own behind first rest start tree is arranged leads =
    let whole : FitsAll (take start own ++ drop start own) empty tree = subst (λ l. LeadsTo l tree) (sym (take-append-drop start own)) leads in
    let both = second_fits (take start own) (drop start own) empty tree whole in
    let kept = lists_keep_effects.arranged names behind first rest arranged both.0 tree (subst (λ l. FitsAll l both.0 tree) (sym is) both.2) in
    joined_fits (take start own ++ first) rest empty kept.0 tree (joined_fits (take start own) first empty both.0 kept.0 both.1 kept.1) kept.2
