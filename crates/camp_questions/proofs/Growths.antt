-- Names to which others are added, one by one, until nothing stops them.
use Rattle.camp_questions.proofs.Words.{◌≢◌, and_from, and_parts, not-true, or_cases, or_none, or_parts, or_true, passes_is_kept, ExactlyOne, append_assoc, list_any-append, Catch, has_patch, is_among, name_of, names_of, name_itself, same_name, among_kept, among_once, AreAlike, AreAdded, AreGrown, in_order, AreAmong, GrewFrom, WasAddedOnWay, ◌≡◌, ◌⊎◌, ◌<◌, ◌≤◌, ℕ, zero, suc, Bool, true, false, true≢false, not, ◌||◌, ◌&&◌, List, [], ◌∷◌, ◌++◌, filter, length, map, bytes_eq, append-nil, refl, sym, ap, ◌∙◌, subst, inl, inr, arith, false_from_ne_true, filter_within, length-filter_both}

-- names are done, or a name that they lack stops them; both depend only on which names there are
pub record Grow (own : List (List ℕ)) (Done : List (List ℕ) → Type 0) (Stops : List (List ℕ) → List ℕ → Type 0) : Type 0 where
  pub either : (names : List (List ℕ)) → Done names ⊎ ((name : List ℕ) × Stops names name)
  pub apart : (names : List (List ℕ)) (name : List ℕ) → Done names → ¬ (Stops names name)
  pub one : (names : List (List ℕ)) (name other : List ℕ) → Stops names name → Stops names other → name ≡ other
  pub has : (names : List (List ℕ)) (name : List ℕ) → Stops names name → is_among own name ≡ true
  pub lacks : (names : List (List ℕ)) (name : List ℕ) → Stops names name → is_among names name ≡ false
  pub done_alike : (names others : List (List ℕ)) → AreAlike names others → Done names → Done others
  pub stops_alike : (names others : List (List ℕ)) (name : List ℕ) → AreAlike names others → Stops names name → Stops others name

pub among_both : (names others : List (List ℕ)) (name : List ℕ) → is_among (names ++ others) name ≡ (is_among names name || is_among others name)
among_both names others name = list_any-append (bytes_eq name) names others

pub among_first : (names others : List (List ℕ)) → AreAmong names (names ++ others)
among_first names others name there = among_both names others name ∙ ap (λ b. b || is_among others name) there

pub among_second : (names others : List (List ℕ)) → AreAmong others (names ++ others)
among_second names others name there =
    among_both names others name ∙ or_true (is_among names name) (is_among others name) there

pub among_parts : (names others : List (List ℕ)) (name : List ℕ) → is_among (names ++ others) name ≡ true → (is_among names name ≡ true) ⊎ (is_among others name ≡ true)
among_parts names others name there =
    or_cases (is_among names name) (is_among others name) (sym (among_both names others name) ∙ there)

-- it is the first, or among the others
pub among_cases : (n : List ℕ) (names : List (List ℕ)) (name : List ℕ) → is_among (n ∷ names) name ≡ true → (name ≡ n) ⊎ (is_among names name ≡ true)
among_cases n names name there = elim (or_cases (bytes_eq name n) (is_among names name) there) [
  | inl e ↦ inl (same_name name n e)
  | inr e ↦ inr e
]

-- one name alone, among others that have it
pub alone_among : (name : List ℕ) (others : List (List ℕ)) → is_among others name ≡ true → AreAmong (name ∷ []) others
alone_among name others has n there = elim (among_cases name [] n there) [
  | inl e ↦ ap (is_among others) e ∙ has
  | inr e ↦ absurd (true≢false (sym e))
]

pub names_differ : (name other : List ℕ) → name ≢ other → bytes_eq name other ≡ false
names_differ name other two = false_from_ne_true (bytes_eq name other) (λ e. two (same_name name other e))

-- names and others, of which the first is counted to the names
moved : (names : List (List ℕ)) (name : List ℕ) (others : List (List ℕ)) → (names ++ name ∷ []) ++ others ≡ names ++ name ∷ others
moved names name others = append_assoc names (name ∷ []) others

-- the names of a list that are not among some
abbrev pub left_of : List (List ℕ) → List (List ℕ) → List (List ℕ)
left_of own names = filter (λ n. not (is_among names n)) own

-- a narrower test that one of the names fails keeps fewer names
fewer : (p q : List ℕ → Bool) → ((n : List ℕ) → q n ≡ true → p n ≡ true) → (name : List ℕ) (names : List (List ℕ)) → p name ≡ true → q name ≡ false → is_among names name ≡ true → length (filter q names) < length (filter p names)
fewer p q narrower name names passes fails there =
    let kept = filter p names in
    let gone : is_among (filter (λ n. not (q n)) kept) name ≡ true = among_kept (λ n. not (q n)) kept name ∙ and_from (is_among kept name) (not (q name)) (passes_is_kept p names name there ∙ passes) (ap not fails) in
    let some = some_there (filter (λ n. not (q n)) kept) gone in
    let both = length-filter_both q (λ n. not (q n)) (λ n. refl) kept in
    let same = ap length (filter_within q p narrower names) in
    omega (arith, some, both, same)
  where
    some_there : (left : List (List ℕ)) → is_among left name ≡ true → 0 < length left
    some_there [] gone = absurd (true≢false (sym gone))
    some_there (n ∷ left) gone = omega arith

-- with a name that they lack, fewer are left
pub fewer_left : (own names next : List (List ℕ)) (name : List ℕ) → is_among own name ≡ true → is_among names name ≡ false → ((n : List ℕ) → is_among next n ≡ (is_among names n || bytes_eq n name)) → length (left_of own next) < length (left_of own names)
fewer_left own names next name there lacks grows =
    fewer (λ n. not (is_among names n)) (λ n. not (is_among next n)) (λ n e. ap not (or_parts (is_among names n) (bytes_eq n name) (sym (grows n) ∙ not-true (is_among next n) e)).0) name own (ap not lacks) (ap not (grows name ∙ or_true (is_among names name) (bytes_eq name name) (name_itself name))) there

one_behind : (names : List (List ℕ)) (name n : List ℕ) → is_among (names ++ name ∷ []) n ≡ (is_among names n || bytes_eq n name)
one_behind names name n =
    among_both names (name ∷ []) n ∙ ap (λ b. is_among names n || b) (or_none (bytes_eq n name))

-- what stops names that are among others is one of these, so all added names are
pub all_within : (Done : List (List ℕ) → Type 0) (Stops : List (List ℕ) → List ℕ → Type 0) (others : List (List ℕ)) → ((names : List (List ℕ)) (name : List ℕ) → AreAmong names others → Stops names name → is_among others name ≡ true) → (names added : List (List ℕ)) → AreAmong names others → AreAdded Done Stops names added → AreAmong (names ++ added) others
all_within Done Stops others each names [] among w = subst (λ l. AreAmong l others) (sym (append-nil names)) among
all_within Done Stops others each names (n ∷ added) among w =
    let with_one : AreAmong (names ++ n ∷ []) others = λ name there. elim (or_cases (is_among names name) (bytes_eq name n) (sym (one_behind names n name) ∙ there)) [
      | inl e ↦ among name e
      | inr e ↦ ap (is_among others) (same_name name n e) ∙ each names n among w.0
    ] in
    subst (λ l. AreAmong l others) (moved names n added) (all_within Done Stops others each (names ++ n ∷ []) added with_one w.1)

module _ (own : List (List ℕ)) (Done : List (List ℕ) → Type 0) (Stops : List (List ℕ) → List ℕ → Type 0) (grow : Grow own Done Stops) where
  added_within : (n : ℕ) (names : List (List ℕ)) → length (left_of own names) ≤ n → Done names ⊎ ((name : List ℕ) × Stops names name) → (added : List (List ℕ)) × AreAdded Done Stops names added
  added_within n names few (inl done) = ([], done)
  added_within zero names few (inr stop) =
      let less = fewer_left own names (names ++ stop.0 ∷ []) stop.0 (grow.has names stop.0 stop.1) (grow.lacks names stop.0 stop.1) (one_behind names stop.0) in
      absurd (omega (few, less, arith))
  added_within (suc n) names few (inr stop) =
      let next = names ++ stop.0 ∷ [] in
      let less = fewer_left own names next stop.0 (grow.has names stop.0 stop.1) (grow.lacks names stop.0 stop.1) (one_behind names stop.0) in
      let more = added_within n next (omega (few, less, arith)) (grow.either next) in
      (stop.0 ∷ more.0, (stop.1, more.1))

  -- some names are added
  pub are_added : (names : List (List ℕ)) → (added : List (List ℕ)) × AreAdded Done Stops names added
  are_added names = added_within (length (left_of own names)) names (omega arith) (grow.either names)

  -- and no others
  pub one_added : (names added others : List (List ℕ)) → AreAdded Done Stops names added → AreAdded Done Stops names others → added ≡ others
  one_added names [] [] v w = refl
  one_added names [] (n ∷ others) v w = absurd (grow.apart names n v w.0)
  one_added names (n ∷ added) [] v w = absurd (grow.apart names n w v.0)
  one_added names (n ∷ added) (m ∷ others) v w =
      let same = grow.one names n m v.0 w.0 in
      let rest = one_added (names ++ m ∷ []) added others (subst (λ l. AreAdded Done Stops (names ++ l ∷ []) added) same v.1) w.1 in
      λ i. same i ∷ rest i

  -- all of them are own
  pub all_own : (names added : List (List ℕ)) → AreAmong names own → AreAdded Done Stops names added → AreAmong (names ++ added) own
  all_own names added among w =
      all_within Done Stops own (λ before name all stop. grow.has before name stop) names added among w

  -- with all of them nothing stops them
  pub all_done : (names added : List (List ℕ)) → AreAdded Done Stops names added → Done (names ++ added)
  all_done names [] w = subst Done (sym (append-nil names)) w
  all_done names (n ∷ added) w = subst Done (moved names n added) (all_done (names ++ n ∷ []) added w.1)

  -- each of them was added on the way
  pub all_met : (names added : List (List ℕ)) → AreAdded Done Stops names added → (name : List ℕ) → is_among (names ++ added) name ≡ true → is_among names name ≡ false → WasAddedOnWay Stops names (names ++ added) name
  all_met names [] w name there lacks =
      absurd (true≢false (sym there ∙ ap (λ l. is_among l name) (append-nil names) ∙ lacks))
  all_met names (n ∷ added) w name there lacks = elim (bytes_eq name n) as (λ b. bytes_eq name n ≡ b → WasAddedOnWay Stops names (names ++ n ∷ added) name) [
    | true ↦ λ e. (names, (λ m among. among), among_first names (n ∷ added), subst (Stops names) (sym (same_name name n e)) w.0)
    | false ↦ λ e.
        let later = all_met (names ++ n ∷ []) added w.1 name (ap (λ l. is_among l name) (moved names n added) ∙ there) (one_behind names n name ∙ (λ i. lacks i || e i)) in (
          later.0,
          (λ m among. later.1 m (among_first names (n ∷ []) m among)),
          (λ m among. sym (ap (λ l. is_among l m) (moved names n added)) ∙ later.2 m among),
          later.3,
        )
  ] refl

and_within : (a b : Bool) → (b ≡ true → a ≡ true) → (a && b) ≡ b
and_within true b within = refl
and_within false true within = within refl
and_within false false within = refl

-- names of a branch are the same in its order
pub same_in_order : (branch : List Catch) (names : List (List ℕ)) → AreAmong names (map name_of branch) → AreAlike names (in_order branch names)
same_in_order branch names own n =
    sym (among_kept (is_among names) (names_of branch) n ∙ ap (λ b. b && is_among names n) (among_once (map name_of branch) n) ∙ and_within (has_patch branch n) (is_among names n) (own n))

-- names in the order of a branch are names of the branch
pub in_order_there : (branch : List Catch) (names : List (List ℕ)) → AreAmong (in_order branch names) (map name_of branch)
in_order_there branch names n there =
    (and_parts (has_patch branch n) (is_among names n) (sym (among_kept (is_among names) (names_of branch) n ∙ ap (λ b. b && is_among names n) (among_once (map name_of branch) n)) ∙ there)).0

module _ (branch : List Catch) (Done : List (List ℕ) → Type 0) (Stops : List (List ℕ) → List ℕ → Type 0) (grow : Grow (map name_of branch) Done Stops) where
  -- names of a branch that have grown are done, and each other one was added on the way
  pub grew : (names grown : List (List ℕ)) → AreAmong names (map name_of branch) → AreGrown branch Done Stops names grown → Done grown × GrewFrom Stops names grown
  grew names grown own w =
      let all = names ++ w.0 in
      let alike : AreAlike all grown = λ n. same_in_order branch all (all_own (map name_of branch) Done Stops grow names w.0 own w.1) n ∙ ap (λ l. is_among l n) (sym w.2) in (
        grow.done_alike all grown alike (all_done (map name_of branch) Done Stops grow names w.0 w.1),
        record {
          has = λ n there. sym (alike n) ∙ among_first names w.0 n there;
          met = λ n there lacks.
              let met = all_met (map name_of branch) Done Stops grow names w.0 w.1 n (alike n ∙ there) lacks in
              (met.0, met.1, (λ m among. sym (alike m) ∙ met.2 m among), met.3);
        },
      )

  -- they grow to exactly one list
  pub grows_to_one : (names : List (List ℕ)) → ExactlyOne (AreGrown branch Done Stops names)
  grows_to_one names =
      let added = are_added (map name_of branch) Done Stops grow names in (
        in_order branch (names ++ added.0),
        (added.0, added.1, refl),
        λ other w. w.2 ∙ ap (λ l. in_order branch (names ++ l)) (one_added (map name_of branch) Done Stops grow names w.0 added.0 w.1 added.1),
      )
