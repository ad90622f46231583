-- A pull of dependencies does not fail because one of them depends on another patch.
use Rattle.camp_questions.proofs.Words.{◌≡◌, ℕ, true, false, true≢false, List, Err, sym, ◌∙◌, subst, inl, inr, ◌↔◌, Contains, Arrange, Catch, has_patch, is_among, is_among_is, CanMoveToFront, among_common, common_names, fronts_follow_fronts, NeedsCanBePulled, Depends, second_so}
use Rattle.camp_questions.proofs.AlongEnough.{IsFree, pulls_freely}
use Rattle.camp_questions.proofs.BranchGrowths.{needs_come_first}

-- dependencies that the other branch lacks are not among the common patches
apart : (from to : List Catch) (needed : List (List ℕ)) → ((name : List ℕ) → is_among needed name ≡ true → has_patch to name ≡ false) → (name : List ℕ) → Contains needed name ↔ (Contains needed name × (¬ (Contains (common_names from to) name)))
apart from to needed lacks name = (
  λ c. (
    c,
    λ d.
        true≢false (sym (second_so (has_patch from name) (has_patch to name) (sym (among_common from to name) ∙ (is_among_is (common_names from to) name).0 d)) ∙ lacks name ((is_among_is needed name).0 c)),
  ),
  λ w. w.0,
)

pub needs_can_be_pulled : NeedsCanBePulled
needs_can_be_pulled from to names needed plain has needs lacks patch on gives = elim gives [
  | inr w ↦ subst IsFree (sym w.3) tt
  | inl w ↦
      let come = subst (λ l. CanMoveToFront l needed) plain.are (needs_come_first from names needed has needs).0 in
      let common = subst (λ l. Arrange (common_names from to) l w.0 w.1) plain.are w.2 in
      let front = fronts_follow_fronts plain.patches needed (common_names from to) needed plain.room (apart from to needed lacks) w.0 w.1 common come in
      pulls_freely from to needed w.0 w.1 (Err (Depends patch on)) w.2 front (inl w)
]
