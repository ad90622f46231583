-- Pulls and obliterations go by which names are there, and not by their order or number.
use Rattle.camp_repo.proofs.Words.{◌≡◌, ◌==◌, ℕ, Bool, not, nat_lt, ◌+◌, ◌||◌, List, [], ◌∷◌, filter, length, Ok, refl, sym, ap, ◌∙◌, subst, inl, inr, true≢false, length-map, ◌↔◌, Contains, entries, keys, len, len-entries, Catch, catches_named, is_among, name_of, names_of, ObliterateGives, Names, is_empty, is_full_with, MergesAfterCommon, Outcome, PullGives, WantedNext, common_names, is_among_is, name_itself}
use Rattle.std.proofs.Math.Dec.{eqb-suc-zero}
use Rattle.camp_catch.proofs.ListResults.{arrange_by_members}

-- two lists of names have the same members
abbrev pub AreAlike : List (List ℕ) → List (List ℕ) → Type 0
AreAlike names others = (name : List ℕ) → is_among names name ≡ is_among others name

filter_alike : {X : Type 0} (p q : X → Bool) → ((x : X) → p x ≡ q x) → (xs : List X) → filter p xs ≡ filter q xs
filter_alike p q same xs = λ i. filter (λ x. same x i) xs

module _ (names others : List (List ℕ)) (alike : AreAlike names others) where
  contains_alike : (n : List ℕ) → Contains names n ↔ Contains others n
  contains_alike n =
      (λ c. (is_among_is others n).1 (sym (alike n) ∙ (is_among_is names n).0 c), λ c. (is_among_is names n).1 (alike n ∙ (is_among_is others n).0 c))

  wanted_alike : (list : List Catch) (Next : List Catch → List Catch → Outcome → Type 0) (outcome : Outcome) → WantedNext names list Next outcome → WantedNext others list Next outcome
  wanted_alike list Next outcome (inl w) =
      inl (w.0, w.1, arrange_by_members.arranged names others contains_alike list w.0 w.1 w.2, w.3)
  wanted_alike list Next outcome (inr w) =
      inr (w.0, w.1, arrange_by_members.sticks names others contains_alike list w.0 w.1 w.2, w.3)

  -- a pull of the same names
  pub pull_alike : (from to : List Catch) (outcome : Outcome) → PullGives from to names outcome → PullGives from to others outcome
  pull_alike from to outcome (inl w) =
      inl (w.0, w.1, w.2, wanted_alike w.1 (λ chosen left. MergesAfterCommon (common_names from to) w.0 chosen to) outcome w.3)
  pull_alike from to outcome (inr w) = inr w

  -- an obliteration of the same names
  pub obliterate_alike : (branch : List Catch) (outcome : Outcome) → ObliterateGives branch names outcome → ObliterateGives branch others outcome
  obliterate_alike branch outcome w =
      subst (λ staying. WantedNext staying branch (λ staying gone outcome. outcome ≡ Ok staying) outcome)
      (filter_alike (λ name. not (is_among names name)) (λ name. not (is_among others name)) (λ name. ap not (alike name)) (names_of branch)) w

  -- a branch has the same catches of them
  pub named_alike : (branch : List Catch) → catches_named names branch ≡ catches_named others branch
  named_alike branch =
      filter_alike (λ k. is_among names (name_of k)) (λ k. is_among others (name_of k)) (λ k. alike (name_of k)) branch

  -- a branch is as full with the same names
  pub full_alike : (most : ℕ) (ours theirs : List Catch) → is_full_with most ours theirs names ≡ is_full_with most ours theirs others
  full_alike most ours theirs = ap (λ list. nat_lt most (length ours + length list)) (named_alike theirs)

  empty_names : (ns os : List (List ℕ)) → ns ≡ names → os ≡ others → is_empty ns ≡ is_empty os
  empty_names [] [] e f = refl
  empty_names [] (o ∷ os) e f =
      absurd (true≢false (sym (ap (λ b. b || is_among os o) (name_itself o)) ∙ ap (λ l. is_among l o) f ∙ sym (alike o) ∙ ap (λ l. is_among l o) (sym e)))
  empty_names (n ∷ ns) [] e f =
      absurd (true≢false (sym (ap (λ b. b || is_among ns n) (name_itself n)) ∙ ap (λ l. is_among l n) e ∙ alike n ∙ ap (λ l. is_among l n) (sym f)))
  empty_names (n ∷ ns) (o ∷ os) e f = refl

  -- there are none where there are none of the others
  pub none_alike : is_empty names ≡ is_empty others
  none_alike = empty_names names others refl refl

pub none_among : (names : List (List ℕ)) → is_empty names ≡ (length names == 0)
none_among [] = refl
none_among (n ∷ names) = sym (eqb-suc-zero (length names))

-- a set does not have a name if it has no entry for it
pub none_there : (set : Names) → is_empty (keys set) ≡ (len set == 0)
none_there set = none_among (keys set) ∙ ap (λ n. n == 0) (length-map (entries set) (λ e. e.0) ∙ sym (len-entries set))
