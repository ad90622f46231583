-- The dependencies of a patch are reached from it along the arrows of the graph, if all catches are plain and have
-- headroom.
use Rattle.camp_questions.proofs.Words.{inl, inr, and_from, and_parts, ◌≡◌, ◌<◌, ◌≤◌, ℕ, zero, suc, ◌+◌, true, false, true≢false, not, ◌||◌, cond, List, [], ◌∷◌, map, bytes_eq, None, Some, refl, sym, ap, ◌∙◌, subst, arith, ◌↔◌, Contains, AllByRecursion, list_any, Catch, name_itself, same_name, among_once, first_lacked, Needs, Drawn, IsGraph, Needing, NeedsThese, goes_between, needs_other, node_of, Node, Arrow, IsPlain, IsReached, NeedsAreReached, NeedsDirectly, NeedsPatch, itself, along, IsLawfulBranch, has_patch, is_among, name_of, names_of, map-map, is_among_is, cases_Bool, is_image}
use Rattle.camp_questions.proofs.Arrows.{arrow_is_need, arrows_are_direct_needs, is_there, known_needs, needs_known, one_needed}
use Rattle.camp_questions.proofs.BranchGrowths.{needs_are_determined, needs_come_first, needs_are_least}
use Rattle.camp_questions.proofs.BackwardArrows.{needs_up_to}
use Rattle.camp_questions.proofs.Growths.{alone_among}
use Rattle.camp_questions.proofs.KeptElements.{fact_of}
use Rattle.camp_questions.proofs.PatchFronts.{earlier, one_passing, place_of}

pub reached_through : {graph : Drawn} {a b c : List ℕ} → IsReached graph a b → IsReached graph b c → IsReached graph a c
reached_through itself w = w
reached_through (along arrow rest) w = along arrow (reached_through rest w)

-- one of the nodes has the name, and the fact holds of it
find : (P : Node → Type 0) (nodes : List Node) (name : List ℕ) → AllByRecursion P nodes → is_among (map (λ (n : Node). n.name) nodes) name ≡ true → (node : Node) × Contains nodes node × (node.name ≡ name) × P node
find P nodes name all there =
    let image = is_image (λ (n : Node). n.name) nodes name ((is_among_is (map (λ (n : Node). n.name) nodes) name).1 there) in
    (image.0, image.1, image.2, fact_of P nodes image.0 all image.1)

module _ (branch : List Catch) (graph : Drawn) (plain : IsPlain branch) (is : IsGraph branch graph) where
  abbrev own : List (List ℕ)
  own = names_of branch

  -- the arrows of a node lead to its direct dependencies
  abbrev IsDrawn : Node → Type 0
  IsDrawn node = (other : List ℕ) → (is_among node.needs other ≡ true) ↔ NeedsDirectly branch node.name other

  own_nodes : map (λ (n : Node). n.name) graph.patches ≡ own
  own_nodes =
      ap (map (λ (n : Node). n.name)) is.patches ∙ map-map (λ (n : Node). n.name) (node_of branch is.all) is.all ∙ is.names

  -- direct dependencies are arrows
  arrow_of : (name other : List ℕ) → is_among own name ≡ true → NeedsDirectly branch name other → Arrow graph name other
  arrow_of name other there direct =
      let node = find IsDrawn graph.patches name (arrows_are_direct_needs branch graph is) (ap (λ l. is_among l name) own_nodes ∙ there) in
      (node.0, node.1, node.2, (node.3 other).1 (subst (λ n. NeedsDirectly branch n other) (sym node.2) direct))

  need_of : (name other : List ℕ) → Arrow graph name other → NeedsPatch branch name other
  need_of name other arrow =
      let fact = fact_of IsDrawn graph.patches arrow.0 (arrows_are_direct_needs branch graph is) arrow.1 in
      let direct = (fact other).0 arrow.3 in
      subst (λ n. NeedsPatch branch n other) arrow.2 direct.needs

  has_own : (name : List ℕ) → is_among own name ≡ has_patch branch name
  has_own name = among_once (map name_of branch) name

  none_lacked : (name : List ℕ) → has_patch branch name ≡ true → first_lacked branch (name ∷ []) ≡ None
  none_lacked name has = ap (λ b. cond b None (Some name)) has

  -- a reached patch is a dependency
  reached_is_needed : (name other : List ℕ) (needed : List (List ℕ)) → IsReached graph name other → has_patch branch name ≡ true → Needs branch (name ∷ []) needed → is_among needed other ≡ true
  reached_is_needed name other needed itself has needs =
      (needs_come_first branch (name ∷ []) needed (none_lacked name has) needs).1.has name (ap (λ b. b || false) (name_itself name))
  reached_is_needed name other needed (along {between = between} arrow rest) has needs =
      let first = need_of name between arrow in
      let one = needs_are_determined branch (between ∷ []) in
      let among : is_among needed between ≡ true = ap (λ l. is_among l between) (one_needed branch (name ∷ []) needed first.1.0 needs first.1.1) ∙ first.1.2 in
      let later = reached_is_needed between other one.0 rest (sym (has_own between) ∙ is_there branch name between first) one.1 in
      needs_are_least branch (between ∷ []) one.0 needed plain one.1 (alone_among between needed among) (needs_come_first branch (name ∷ []) needed (none_lacked name has) needs).0 other later

  module _ (lawful : IsLawfulBranch branch) where
    -- the dependencies of a patch come before it
    stands_before : (name other : List ℕ) → is_among own name ≡ true → NeedsPatch branch name other → place_of own other < place_of own name
    stands_before name other there needs = earlier own name other (needs_up_to branch name other lawful there needs) needs.0

    -- by induction on the distance between them
    need_is_reached : (n : ℕ) (name other : List ℕ) → is_among own name ≡ true → NeedsPatch branch name other → place_of own name ≤ n + place_of own other → IsReached graph name other
    need_is_reached zero name other there needs far =
        let less = stands_before name other there needs in absurd (omega (less, far, arith))
    need_is_reached (suc n) name other there needs far =
        let patch : Needing = record { name = name; needs = needs.1.0 } in
        let these : NeedsThese branch patch = (needs.1.0, needs.1.1, λ m. refl) in
        elim (list_any (goes_between patch other) is.all) as (λ b. list_any (goes_between patch other) is.all ≡ b → IsReached graph name other) [
          | true ↦ λ e.
              let one = one_passing (NeedsThese branch) (goes_between patch other) is.all is.needs e in
              let parts = and_parts (needs_other patch one.0.name) (needs_other one.0 other) one.2 in
              let first = known_needs branch patch these one.0.name parts.0 in
              let second = known_needs branch one.0 one.1 other parts.1 in
              let there_too = is_there branch name one.0.name first in
              let less = stands_before name one.0.name there first in
              let lesser = stands_before one.0.name other there_too second in
              reached_through (need_is_reached n name one.0.name there first (omega (less, lesser, far, arith))) (need_is_reached n one.0.name other there_too second (omega (less, lesser, far, arith)))
          | false ↦ λ e.
              let known = needs_known branch patch these other needs in
              let direct = arrow_is_need branch is.all is.names is.needs patch these other (and_from (needs_other patch other) (not (list_any (goes_between patch other) is.all)) known (ap not e)) in
              along (arrow_of name other there direct) itself
        ] refl

    needed_is_reached : (name other : List ℕ) (needed : List (List ℕ)) → has_patch branch name ≡ true → Needs branch (name ∷ []) needed → is_among needed other ≡ true → IsReached graph name other
    needed_is_reached name other needed has needs among = elim (cases_Bool (bytes_eq other name)) [
      | inl e ↦ subst (IsReached graph name) (sym (same_name other name e)) itself
      | inr e ↦ need_is_reached (place_of own name) name other (has_own name ∙ has) ((λ same. true≢false (sym (ap (λ l. bytes_eq l name) same ∙ name_itself name) ∙ e)), (needed, needs, among)) (omega arith)
    ]

pub needs_are_reached : NeedsAreReached
needs_are_reached branch graph name needed lawful plain is has needs other =
    (needed_is_reached branch graph plain is lawful name other needed has needs, λ reached. reached_is_needed branch graph plain is name other needed reached has needs)
