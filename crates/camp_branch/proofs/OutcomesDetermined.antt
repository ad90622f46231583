-- A pull has exactly one outcome, and so does an obliteration.
use Rattle.camp_branch.proofs.Words.{◌≡◌, ◌⊎◌, ℕ, List, [], ◌∷◌, ◌++◌, Ok, Err, refl, sym, ap, ◌∙◌, subst, inl, inr, Key, Arrange, ArrangeIsBlocked, Align, AlignIsBlocked, keys_of, MergeLists, MergeIsBlocked, Catch, lists_are_unique, lists_succeed_or_are_blocked, name_of, ExactlyOne, OutcomesAreDetermined, other_names, Outcome, StepThen, SameThen, DiffersAt, common_names, Blocked}
use Rattle.camp_catch.specs.ListLaws.{GivesOnePair, HasPair, OneOf}
use Rattle.camp_catch.proofs.SameCatches.{catch_or_not}
use Rattle.camp_branch.specs.declared.faults.Blocked.TheVariants.{Diverged}

once : {Has : Outcome → Type 0} (one : Outcome) → Has one → ((other : Outcome) → Has other → other ≡ one) → ExactlyOne Has
once one has unique = (one, has, unique)

-- of two ways to an outcome, one is open
by_first : (P Q : Outcome → Type 0) → ExactlyOne P → ((outcome : Outcome) → ¬ (Q outcome)) → ExactlyOne (λ outcome. P outcome ⊎ Q outcome)
by_first P Q one never =
    once one.0 (inl one.1) (λ other o. elim o [ inl p ↦ one.2 other p | inr q ↦ absurd (never other q) ])

by_second : (P Q : Outcome → Type 0) → ExactlyOne Q → ((outcome : Outcome) → ¬ (P outcome)) → ExactlyOne (λ outcome. P outcome ⊎ Q outcome)
by_second P Q one never =
    once one.0 (inr one.1) (λ other o. elim o [ inl p ↦ absurd (never other p) | inr q ↦ one.2 other q ])

module _ (Gives : List Catch → List Catch → Type 0) (Sticks : Key → Key → Type 0) (why : Key → Key → Blocked) (Next : List Catch → List Catch → Outcome → Type 0) where
  goes_on : GivesOnePair Gives → (x y : List Catch) → Gives x y → (HasPair Sticks → ⊥) → ExactlyOne (Next x y) → ExactlyOne (StepThen Gives Sticks why Next)
  goes_on one x y gives never next =
      by_first _ _ (once next.0 (x, y, gives, next.1) (λ other v. next.2 other (subst (λ t. Next t y other) (one v.0 x v.1 y v.2 gives).0 (subst (λ t. Next v.0 t other) (one v.0 x v.1 y v.2 gives).1 v.3)))) (λ other s. never (s.0, s.1, s.2))

  stops : GivesOnePair Sticks → (k l : Key) → Sticks k l → (HasPair Gives → ⊥) → ExactlyOne (StepThen Gives Sticks why Next)
  stops one k l sticks never =
      by_second _ _ (once (Err (why k l)) (k, l, sticks, refl) (λ other s. s.3 ∙ (λ i. Err (why ((one s.0 k s.1 l s.2 sticks).0 i) ((one s.0 k s.1 l s.2 sticks).1 i))))) (λ other v. never (v.0, v.1, v.2))

  -- a determined step followed by one that is determined
  pub step : GivesOnePair Gives → GivesOnePair Sticks → OneOf (HasPair Gives) (HasPair Sticks) → ((x y : List Catch) → ExactlyOne (Next x y)) → ExactlyOne (StepThen Gives Sticks why Next)
  step one only choice next = elim choice.0 [
    | inl w ↦ goes_on one w.0 w.1 w.2 (choice.1 w) (next w.0 w.1)
    | inr s ↦ stops only s.0 s.1 s.2 (λ w. choice.1 w s)
  ]

arranged : (names : List (List ℕ)) (list : List Catch) (why : Key → Key → Blocked) (Next : List Catch → List Catch → Outcome → Type 0) → ((x y : List Catch) → ExactlyOne (Next x y)) → ExactlyOne (StepThen (Arrange names list) (ArrangeIsBlocked names list) why Next)
arranged names list why Next =
    step (Arrange names list) (ArrangeIsBlocked names list) why Next (lists_are_unique.arranged names list) (lists_are_unique.arrange_sticks names list) (lists_succeed_or_are_blocked.arranges names list)

-- a list does not differ from itself
not_from_itself : (list : List Catch) (name : List ℕ) → ¬ (DiffersAt list list name)
not_from_itself [] name w = w
not_from_itself (k ∷ list) name (inl w) = w.0 refl
not_from_itself (k ∷ list) name (inr w) = not_from_itself list name w.1

-- two lists are the same, or differ first at some name
abbrev Compared : List Catch → List Catch → Type 0
Compared s t = (s ≡ t) ⊎ ((name : List ℕ) × DiffersAt s t name)

compared_behind : (j k : Catch) (s t : List Catch) → j ≡ k → Compared s t → Compared (j ∷ s) (k ∷ t)
compared_behind j k s t e (inl f) = inl (λ i. e i ∷ f i)
compared_behind j k s t e (inr w) = inr (w.0, inr (e, w.1))

compared : (s t : List Catch) → Compared s t
compared [] [] = inl refl
compared [] (k ∷ t) = inr (name_of k, refl)
compared (j ∷ s) [] = inr (name_of j, refl)
compared (j ∷ s) (k ∷ t) = elim (catch_or_not j k) [
  | inl e ↦ compared_behind j k s t e (compared s t)
  | inr other ↦ inr (name_of j, inl (other, refl))
]

one_difference : (s t : List Catch) (name other : List ℕ) → DiffersAt s t name → DiffersAt s t other → name ≡ other
one_difference [] [] name other v w = absurd v
one_difference [] (k ∷ t) name other v w = v ∙ sym w
one_difference (j ∷ s) [] name other v w = v ∙ sym w
one_difference (j ∷ s) (k ∷ t) name other (inl v) (inl w) = v.1 ∙ sym w.1
one_difference (j ∷ s) (k ∷ t) name other (inl v) (inr w) = absurd (v.0 w.0)
one_difference (j ∷ s) (k ∷ t) name other (inr v) (inl w) = absurd (w.0 v.0)
one_difference (j ∷ s) (k ∷ t) name other (inr v) (inr w) = one_difference s t name other v.1 w.1

module _ (from_common to_common : List Catch) (Next : Outcome → Type 0) where
  never : ((aligned : List Catch) × Align (keys_of to_common) from_common aligned) → ((stuck : Key) × AlignIsBlocked (keys_of to_common) from_common stuck) → ⊥
  never = (lists_succeed_or_are_blocked.aligns (keys_of to_common) from_common).1

  one_order : (aligned other : List Catch) → Align (keys_of to_common) from_common aligned → Align (keys_of to_common) from_common other → aligned ≡ other
  one_order = lists_are_unique.aligned (keys_of to_common) from_common

  same_fronts : Align (keys_of to_common) from_common to_common → ExactlyOne Next → ExactlyOne (SameThen from_common to_common Next)
  same_fronts align next =
      by_first _ _ (once next.0 (align, next.1) (λ other v. next.2 other v.1)) (λ other o. elim o [
        | inl s ↦ never (to_common, align) (s.0, s.1)
        | inr d ↦ not_from_itself to_common d.1 (subst (λ l. DiffersAt l to_common d.1) (one_order d.0 to_common d.2 align) d.3)
      ])

  other_fronts : (aligned : List Catch) (name : List ℕ) → Align (keys_of to_common) from_common aligned → DiffersAt aligned to_common name → ExactlyOne (SameThen from_common to_common Next)
  other_fronts aligned name align differs =
      by_second _ _ (by_second _ _ (once (Err (Diverged name)) (aligned, name, align, differs, refl) (λ other d. d.4 ∙ ap (λ n. Err (Diverged n)) (one_difference aligned to_common d.1 name (subst (λ l. DiffersAt l to_common d.1) (one_order d.0 aligned d.2 align) d.3) differs))) (λ other s. never (aligned, align) (s.0, s.1))) (λ other v. not_from_itself to_common name (subst (λ l. DiffersAt l to_common name) (one_order aligned to_common align v.0) differs))

  order_sticks : (stuck : Key) → AlignIsBlocked (keys_of to_common) from_common stuck → ExactlyOne (SameThen from_common to_common Next)
  order_sticks stuck sticks =
      by_second _ _ (by_first _ _ (once (Err (Diverged stuck.name)) (stuck, sticks, refl) (λ other s. s.2 ∙ ap (λ (k : Key). Err (Diverged k.name)) (lists_are_unique.align_sticks (keys_of to_common) from_common s.0 stuck s.1 sticks))) (λ other d. never (d.0, d.2) (stuck, sticks))) (λ other v. never (to_common, v.0) (stuck, sticks))

  same_then : ExactlyOne Next → ExactlyOne (SameThen from_common to_common Next)
  same_then next = elim (lists_succeed_or_are_blocked.aligns (keys_of to_common) from_common).0 [
    | inl a ↦ elim (compared a.0 to_common) [
      | inl e ↦ same_fronts (subst (λ l. Align (keys_of to_common) from_common l) e a.1) next
      | inr d ↦ other_fronts a.0 d.0 a.1 d.1
    ]
    | inr s ↦ order_sticks s.0 s.1
  ]

pub outcomes_are_determined : OutcomesAreDetermined
outcomes_are_determined = record {
  pulls = λ from to wanted.
      arranged (common_names from to) from _ _ (λ from_common behind.
      arranged wanted behind _ _ (λ chosen left.
      arranged (common_names from to) to _ _ (λ to_common others.
      same_then from_common to_common _ (
      step (MergeLists chosen others) (MergeIsBlocked chosen others) _ _ (lists_are_unique.merged chosen others) (lists_are_unique.merge_sticks chosen others) (lists_succeed_or_are_blocked.merges chosen others) (λ taken beside.
      (Ok (to ++ taken), refl, λ other is. is))))));
  obliterates = λ branch names. arranged (other_names branch names) branch _ _ (λ staying gone. (Ok staying, refl, λ other is. is));
}
