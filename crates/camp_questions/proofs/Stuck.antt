-- What blocks the patches of a branch on their way to its front.
use Rattle.camp_questions.proofs.Words.{◌≡◌, ℕ, true, false, ◌||◌, List, [], ◌∷◌, ◌++◌, map, bytes_eq, refl, sym, ap, ◌∙◌, subst, inl, inr, map-append, list_any-append, Key, Catch, is_among, name_of, ArrangeIsBlocked, CatchCommutesBeforeAll, IsBlockedAfter, IsBlockedByKey, is_among_is, not_among, or_true, same_name, keep_labels, or_cases, or_none}
use Rattle.camp_questions.proofs.PatchFronts.{at_first}

-- the names of the patches of some catches
abbrev names_at : List Catch → List (List ℕ)
names_at list = map name_of list

-- catches that one commutes past keep their names
names_stay : (list : List Catch) (k k' : Catch) (list' : List Catch) → CatchCommutesBeforeAll list k k' list' → names_at list' ≡ names_at list
names_stay [] k k' list' w = ap names_at w.1
names_stay (j ∷ list) k k' list' w =
    let called = ap (λ (key : Key). key.name) (keep_labels.commuted j w.0 k' w.1 w.4).1 in
    let rest = names_stay list k w.0 w.2 w.3 in
    ap names_at w.5 ∙ (λ t. called t ∷ rest t)

-- the catch that blocks another is one of those before it
stops_at_one : (list : List Catch) (k : Catch) (on : Key) → IsBlockedByKey list k on → is_among (names_at list) on.name ≡ true
stops_at_one [] k on w = absurd w
stops_at_one (j ∷ list) k on (inl w) = or_true (bytes_eq on.name (name_of j)) _ (stops_at_one list k on w)
stops_at_one (j ∷ list) k on (inr w) = at_first (name_of j) (names_at list) on.name (ap (λ (key : Key). key.name) w.4)

module _ (names own : List (List ℕ)) where
  -- a name of a branch that is not one of those to be moved
  abbrev Waits : List ℕ → Type 0
  Waits name = (is_among own name ≡ true) × (is_among names name ≡ false)

  abbrev AllWait : List Catch → Type 0
  AllWait rest = (name : List ℕ) → is_among (names_at rest) name ≡ true → Waits name

  abbrev AreOwn : List Catch → Type 0
  AreOwn list = (name : List ℕ) → is_among (names_at list) name ≡ true → is_among own name ≡ true

  one_waits : (k : Catch) (rest : List Catch) → Waits (name_of k) → AllWait rest → AllWait (rest ++ k ∷ [])
  one_waits k rest waits all name there =
      let parts = sym (ap (λ l. is_among l name) (map-append name_of rest (k ∷ [])) ∙ list_any-append (bytes_eq name) (names_at rest) (name_of k ∷ [])) ∙ there in
      elim (or_cases (is_among (names_at rest) name) (bytes_eq name (name_of k) || false) parts) [
        | inl e ↦ all name e
        | inr e ↦ subst Waits (sym (same_name name (name_of k) (sym (or_none (bytes_eq name (name_of k))) ∙ e))) waits
      ]

  -- at the block, `on` is not to be moved, and `patch` is
  abbrev pub SticksBetween : Key → Key → Type 0
  SticksBetween patch on = Waits on.name × (is_among own patch.name ≡ true) × (is_among names patch.name ≡ true)

  sticks_behind : (rest list : List Catch) (patch on : Key) → AllWait rest → AreOwn list → IsBlockedAfter names rest list patch on → SticksBetween patch on
  sticks_behind rest [] patch on all own_list w = absurd w
  sticks_behind rest (k ∷ list) patch on all own_list (inl w) =
      let called : patch.name ≡ name_of k = ap (λ key. key.name) w.2 in (
        all on.name (stops_at_one rest k on w.1),
        own_list patch.name (at_first (name_of k) (names_at list) patch.name called),
        ap (is_among names) called ∙ (is_among_is names (name_of k)).0 w.0,
      )
  sticks_behind rest (k ∷ list) patch on all own_list (inr (inl w)) =
      let come = w.1 in
      let same = names_stay rest k come.0 come.1 come.2 in
      sticks_behind come.1 list patch on (λ name there. all name (sym (ap (λ l. is_among l name) same) ∙ there)) (λ name there. own_list name (or_true (bytes_eq name (name_of k)) _ there)) come.3
  sticks_behind rest (k ∷ list) patch on all own_list (inr (inr w)) =
      let waits : Waits (name_of k) = (own_list (name_of k) (at_first (name_of k) (names_at list) (name_of k) refl), not_among names (name_of k) w.0) in
      sticks_behind (rest ++ k ∷ []) list patch on (one_waits k rest waits all) (λ name there. own_list name (or_true (bytes_eq name (name_of k)) _ there)) w.1

-- a block is between a patch that is to be moved to the front, and one that is not
pub sticks_between : (names : List (List ℕ)) (branch : List Catch) (patch on : Key) → ArrangeIsBlocked names branch patch on → SticksBetween names (map name_of branch) patch on
sticks_between names branch patch on w =
    sticks_behind names (map name_of branch) [] branch patch on (λ name there. cc) (λ name there. there) w
