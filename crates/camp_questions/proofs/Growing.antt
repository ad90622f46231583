-- Names that grow in a set, one at a time.
use Rattle.camp_questions.proofs.Words.{or_none, ◌≡◌, ◌<◌, ℕ, ◌||◌, List, [], ◌∷◌, ◌++◌, filter, length, bytes_eq, append-nil, sym, ap, ◌∙◌, subst, append_assoc, contains_key, insert, keys, Catch, is_among, names_of, has_listed, AreAlike, AreAdded, AreGrown, in_order, Names, contains_more, Grows}
use Rattle.camp_questions.proofs.Growths.{Grow, among_both, fewer_left, left_of}

-- a set has one name more
pub one_more : (set next : Names) (added n : List ℕ) → next ≡ insert set added tt → is_among (keys next) n ≡ (is_among (keys set) n || bytes_eq n added)
one_more set next added n becomes =
    sym (has_listed next n) ∙ ap (λ m. contains_key m n) becomes ∙ contains_more set added n ∙ ap (λ b. b || bytes_eq n added) (has_listed set n)

-- the first names are inserted, and the names added for them come after these
pub record IsGrownSoFar (Done : List (List ℕ) → Type 0) (Stops : List (List ℕ) → List ℕ → Type 0) (names grown : List (List ℕ)) : Type 0 where
  pub added : List (List ℕ)
  pub members : AreAlike grown (names ++ added)
  pub goes : (more : List (List ℕ)) → AreAdded Done Stops (names ++ added) more → AreAdded Done Stops names (added ++ more)

module _ (own : List (List ℕ)) (Done : List (List ℕ) → Type 0) (Stops : List (List ℕ) → List ℕ → Type 0) (grow : Grow own Done Stops) where
  -- at first no name is inserted
  pub none_grown : (names : List (List ℕ)) → IsGrownSoFar Done Stops names names
  none_grown names = record {
    added = [];
    members = λ n. ap (λ l. is_among l n) (sym (append-nil names));
    goes = λ more w. subst (λ l. AreAdded Done Stops l more) (append-nil names) w;
  }

  -- the name that stops them is inserted
  pub one_grown : (names : List (List ℕ)) (set next : Names) (name : List ℕ) → IsGrownSoFar Done Stops names (keys set) → Stops (keys set) name → next ≡ insert set name tt → IsGrownSoFar Done Stops names (keys next)
  one_grown names set next name so_far stops becomes =
      let added = so_far.added in
      let more_added : names ++ (added ++ name ∷ []) ≡ (names ++ added) ++ name ∷ [] = sym (append_assoc names added (name ∷ [])) in
      record {
        added = added ++ name ∷ [];
        members = λ n. one_more set next name n becomes ∙ ap (λ b. b || bytes_eq n name) (so_far.members n) ∙ ap (λ b. is_among (names ++ added) n || b) (sym (or_none (bytes_eq n name))) ∙ sym (among_both (names ++ added) (name ∷ []) n) ∙ ap (λ l. is_among l n) (sym more_added);
        goes = λ more w.
            let stopped = grow.stops_alike (keys set) (names ++ added) name so_far.members stops in
            subst (AreAdded Done Stops names) (sym (append_assoc added (name ∷ []) more)) (so_far.goes (name ∷ more) (stopped, subst (λ l. AreAdded Done Stops l more) more_added w));
      }

  -- at the end nothing stops them
  pub all_grown : (names grown : List (List ℕ)) → IsGrownSoFar Done Stops names grown → Done grown → Grows Done Stops names grown
  all_grown names grown so_far done =
      let finished = grow.done_alike grown (names ++ so_far.added) so_far.members done in
      (so_far.added, subst (AreAdded Done Stops names) (append-nil so_far.added) (so_far.goes [] finished), so_far.members)

  -- fewer names are left then
  pub fewer_to_come : (set next : Names) (name : List ℕ) → Stops (keys set) name → next ≡ insert set name tt → length (left_of own (keys next)) < length (left_of own (keys set))
  fewer_to_come set next name stops becomes =
      fewer_left own (keys set) (keys next) name (grow.has (keys set) name stops) (grow.lacks (keys set) name stops) (λ n. one_more set next name n becomes)

  alike_with : (names others : List (List ℕ)) → AreAlike names others → (added : List (List ℕ)) → AreAlike (names ++ added) (others ++ added)
  alike_with names others alike added n =
      among_both names added n ∙ ap (λ b. b || is_among added n) (alike n) ∙ sym (among_both others added n)

  -- the same names grow by the same names
  pub added_alike : (names others added : List (List ℕ)) → AreAlike names others → AreAdded Done Stops names added → AreAdded Done Stops others added
  added_alike names others [] alike w = grow.done_alike names others alike w
  added_alike names others (n ∷ added) alike w = (
    grow.stops_alike names others n alike w.0,
    added_alike (names ++ n ∷ []) (others ++ n ∷ []) added (alike_with names others alike (n ∷ [])) w.1,
  )

  -- the grown names, in the order of a branch
  pub grown_in_order : (branch : List Catch) (names set grown told : List (List ℕ)) → AreAlike set names → Grows Done Stops set grown → told ≡ in_order branch grown → AreGrown branch Done Stops names told
  grown_in_order branch names set grown told alike grows is = (
    grows.0,
    added_alike set names grows.0 alike grows.1,
    is ∙ (λ i. filter (λ n. (grows.2 n ∙ alike_with set names alike grows.0 n) i) (names_of branch)),
  )
