-- Joins the stages of a pull.
use Rattle.std.specs.Prelude.{MatchOption}
use Rattle.std.specs.Result.{MatchResult}
use Rattle.camp_catch.specs.Making.{GivesOrRunsOut}
use Rattle.camp_catch.specs.declared.faults.Unmade.{Unmade}
use Rattle.camp_catch.proofs.Making.{blocks_too}
use Rattle.camp_branch.proofs.Words.{Option, None, Some, false, true≢false, is_some, ℕ, List, [], ◌∷◌, ◌++◌, append-nil, append_assoc, arith, subst, ArrangesAfter, Result, Ok, Err, refl, ap, inl, inr, Arrange, Align, keys_of, MergeLists, Catch, DependsIn, DivergesFrom, DivergesIn, DoesNotMerge, PullBy, Blocked, ◌≡◌, DiffersAt}

-- a fact about either result follows from a fact about the result before it
pub either_answer : {X W : Type 0} (P P' : X → Type 0) (Q Q' : W → Type 0) → ((x : X) → P x → P' x) → ((w : W) → Q w → Q' w) → (answer : Result X (Unmade W)) → GivesOrRunsOut (λ a. MatchResult a P Q) answer → GivesOrRunsOut (λ a. MatchResult a P' Q') answer
either_answer P P' Q Q' goes stops (Ok x) w = goes x w
either_answer P P' Q Q' goes stops (Err why) w = blocks_too why w stops

module _ (common : List (List ℕ)) (from to : List Catch) (wanted : List (List ℕ)) where
  pub theirs_diverge : (blocked : Blocked) → DivergesIn common from blocked → PullBy common from to wanted (Err blocked)
  theirs_diverge blocked w = inr (w.0, w.1, w.2, ap Err w.3)

  module _ (from_common behind : List Catch) (theirs : Arrange common from from_common behind) where
    pub depends : (blocked : Blocked) → DependsIn wanted behind blocked → PullBy common from to wanted (Err blocked)
    depends blocked w = inl (from_common, behind, theirs, inr (w.0, w.1, w.2, ap Err w.3))

    module _ (chosen left : List Catch) (choice : Arrange wanted behind chosen left) where
      pub ours_diverge : (blocked : Blocked) → DivergesIn common to blocked → PullBy common from to wanted (Err blocked)
      ours_diverge blocked w = inl (from_common, behind, theirs, inl (chosen, left, choice, inr (w.0, w.1, w.2, ap Err w.3)))

      module _ (to_common others : List Catch) (ours : Arrange common to to_common others) where
        pub both_diverge : (blocked : Blocked) → DivergesFrom from_common to_common blocked → PullBy common from to wanted (Err blocked)
        both_diverge blocked (inl w) =
            inl (from_common, behind, theirs, inl (chosen, left, choice, inl (to_common, others, ours, inr (inl (w.0, w.1, ap Err w.2)))))
        both_diverge blocked (inr w) =
            inl (from_common, behind, theirs, inl (chosen, left, choice, inl (to_common, others, ours, inr (inr (w.0, w.1, w.2, w.3, ap Err w.4)))))

        pub no_merge : Align (keys_of to_common) from_common to_common → (blocked : Blocked) → DoesNotMerge chosen others blocked → PullBy common from to wanted (Err blocked)
        no_merge same blocked w =
            inl (from_common, behind, theirs, inl (chosen, left, choice, inl (to_common, others, ours, inl (same, inr (w.0, w.1, w.2, ap Err w.3)))))

        pub merges : Align (keys_of to_common) from_common to_common → (taken : List Catch) → (beside : List Catch) × MergeLists chosen others taken beside → PullBy common from to wanted (Ok (to ++ taken))
        merges same taken w =
            inl (from_common, behind, theirs, inl (chosen, left, choice, inl (to_common, others, ours, inl (same, inl (taken, w.0, w.1, refl)))))

-- the case in which nothing is found
pub none_found : {X P : Type 0} (Q : X → Type 0) (found : Option X) → is_some found ≡ false → MatchOption found P Q → P
none_found Q None none told = told
none_found Q (Some x) some told = absurd (true≢false some)

-- no catch is of no patches: all of a list are others
pub none_arranged : (rest list : List Catch) → ArrangesAfter [] rest list [] (rest ++ list)
none_arranged rest [] = (refl, append-nil rest)
none_arranged rest (k ∷ list) =
    inr ((λ is. omega (arith, is.1)), subst (λ l. ArrangesAfter [] (rest ++ k ∷ []) list [] l) (append_assoc rest (k ∷ []) list) (none_arranged (rest ++ k ∷ []) list))

-- the lists differ, or are the same, as the rests of them
pub record DiffersOn (list others rest more : List Catch) : Type 0 where
  pub differs : (name : List ℕ) → DiffersAt rest more name → DiffersAt list others name
  pub same : rest ≡ more → list ≡ others
