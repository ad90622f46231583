-- The arrows of a graph lead to the direct dependencies.
use Rattle.camp_questions.proofs.Words.{◌≡◌, ℕ, Bool, true, false, true≢false, not, ◌||◌, List, [], ◌∷◌, ◌++◌, map, bytes_eq, refl, sym, ap, ◌∙◌, subst, ◌↔◌, AllByRecursion, list_any, Catch, and_from, and_parts, not-true, is_among, name_of, names_of, name_itself, or_true, among_kept, among_once, Needs, Node, ArrowsAreDirectNeeds, NeedsDirectly, NeedsPatch, Needing, NeedsThese, goes_between, needs_directly, needs_other, node_of, inl, inr}
use Rattle.camp_questions.proofs.BranchGrowths.{needs_are_determined}
use Rattle.camp_questions.proofs.Growths.{among_cases, in_order_there, names_differ}
use Rattle.camp_questions.proofs.PatchFronts.{all_are, all_images, one_passing}

module _ (branch : List Catch) where
  pub one_needed : (names needed other : List (List ℕ)) → Needs branch names needed → Needs branch names other → needed ≡ other
  one_needed names needed other v w =
      let one = needs_are_determined branch names in one.2 needed v ∙ sym (one.2 other w)

  -- the dependencies of a patch are known
  pub needs_known : (patch : Needing) → NeedsThese branch patch → (other : List ℕ) → NeedsPatch branch patch.name other → needs_other patch other ≡ true
  needs_known patch these other needs =
      let same = one_needed (patch.name ∷ []) these.0 needs.1.0 these.1 needs.1.1 in
      and_from (not (bytes_eq other patch.name)) (is_among patch.needs other) (ap not (names_differ other patch.name needs.0)) (these.2 other ∙ ap (λ l. is_among l other) same ∙ needs.1.2)

  -- what is known is a dependency
  pub known_needs : (patch : Needing) → NeedsThese branch patch → (other : List ℕ) → needs_other patch other ≡ true → NeedsPatch branch patch.name other
  known_needs patch these other known =
      let parts = and_parts (not (bytes_eq other patch.name)) (is_among patch.needs other) known in (
        λ same. true≢false (sym (ap (λ n. bytes_eq n patch.name) same ∙ name_itself patch.name) ∙ not-true (bytes_eq other patch.name) parts.0),
        (these.0, these.1, sym (these.2 other) ∙ parts.1),
      )

  -- one of the patches has the name
  passes_there : (test : Needing → Bool) (all : List Needing) (name : List ℕ) → AllByRecursion (NeedsThese branch) all → ((patch : Needing) → NeedsThese branch patch → patch.name ≡ name → test patch ≡ true) → is_among (map (λ (p : Needing). p.name) all) name ≡ true → list_any test all ≡ true
  passes_there test [] name each passes among = absurd (true≢false (sym among))
  passes_there test (patch ∷ all) name each passes among = elim (among_cases patch.name (map (λ (p : Needing). p.name) all) name among) [
    | inl e ↦ ap (λ b. b || list_any test all) (passes patch each.0 (sym e))
    | inr e ↦ or_true (test patch) (list_any test all) (passes_there test all name each.1 passes e)
  ]

  -- a dependency is a patch of the branch
  pub is_there : (name other : List ℕ) → NeedsPatch branch name other → is_among (names_of branch) other ≡ true
  is_there name other needs =
      among_once (map name_of branch) other ∙ in_order_there branch ((name ∷ []) ++ needs.1.1.0) other (ap (λ l. is_among l other) (sym needs.1.1.2) ∙ needs.1.2)

  module _ (all : List Needing) (names : map (λ (p : Needing). p.name) all ≡ names_of branch) (each : AllByRecursion (NeedsThese branch) all) (patch : Needing) (these : NeedsThese branch patch) (other : List ℕ) where
    pub arrow_is_need : needs_directly all patch other ≡ true → NeedsDirectly branch patch.name other
    arrow_is_need e =
        let parts = and_parts (needs_other patch other) (not (list_any (goes_between patch other) all)) e in
        record {
          needs = known_needs patch these other parts.0;
          none_between = λ between first second.
              let among = ap (λ l. is_among l between) names ∙ is_there patch.name between first in
              let passes : (p : Needing) → NeedsThese branch p → p.name ≡ between → goes_between patch other p ≡ true = λ p w same.
              and_from (needs_other patch p.name) (needs_other p other) (needs_known patch these p.name (subst (NeedsPatch branch patch.name) (sym same) first)) (needs_known p w other (subst (λ n. NeedsPatch branch n other) (sym same) second)) in
              true≢false (sym (passes_there (goes_between patch other) all between each passes among) ∙ not-true (list_any (goes_between patch other) all) parts.1);
        }

    none_goes_between : (b : Bool) → list_any (goes_between patch other) all ≡ b → NeedsDirectly branch patch.name other → not b ≡ true
    none_goes_between false e direct = refl
    none_goes_between true e direct =
        let one = one_passing (NeedsThese branch) (goes_between patch other) all each e in
        let parts = and_parts (needs_other patch one.0.name) (needs_other one.0 other) one.2 in
        absurd (direct.none_between one.0.name (known_needs patch these one.0.name parts.0) (known_needs one.0 one.1 other parts.1))

    pub need_is_arrow : NeedsDirectly branch patch.name other → needs_directly all patch other ≡ true
    need_is_arrow direct =
        and_from (needs_other patch other) (not (list_any (goes_between patch other) all)) (needs_known patch these other direct.needs) (none_goes_between (list_any (goes_between patch other) all) refl direct)

    arrows_at : (is_among (node_of branch all patch).needs other ≡ true) ↔ NeedsDirectly branch patch.name other
    arrows_at =
        let kept = among_kept (needs_directly all patch) (names_of branch) other in (
          λ e. arrow_is_need (and_parts (is_among (names_of branch) other) (needs_directly all patch other) (sym kept ∙ e)).1,
          λ direct. kept ∙ and_from (is_among (names_of branch) other) (needs_directly all patch other) (is_there patch.name other direct.needs) (need_is_arrow direct),
        )

pub arrows_are_direct_needs : ArrowsAreDirectNeeds
arrows_are_direct_needs branch graph is =
    let Are : Node → Type 0 = λ node. (other : List ℕ) → (is_among node.needs other ≡ true) ↔ NeedsDirectly branch node.name other in
    subst (AllByRecursion Are) (sym is.patches) (all_images (node_of branch is.all) Are is.all (all_are (λ patch these. arrows_at branch is.all is.names is.needs patch these) is.all is.needs))
