-- The dependents of names are the least list that can be taken out, if all catches are plain and have headroom; and a
-- patch depends on another exactly if it is its dependent.
use Rattle.camp_questions.proofs.Words.{◌≡◌, ℕ, true, false, true≢false, not, ◌&&◌, ◌||◌, List, [], ◌∷◌, ◌++◌, map, Ok, Err, refl, sym, ap, ◌∙◌, subst, inl, inr, Contains, ArrangeIsBlocked, Key, Catch, has_patch, is_among, name_of, name_itself, is_among_is, among_others, other_names, DependsOnTakenOut, CanBeTakenOut, CanMoveToFront, HeldBy, Needs, AreBlockedBy, AreAmong, IsPlain, false_from_ne_true, true_from_ne_false, HeldIsLeast, NeedsAndHeldAreOne, Depends, both_ways}
use Rattle.camp_questions.proofs.PlainGoing.{what_comes_never_sticks}
use Rattle.camp_questions.proofs.BranchGrowths.{apart_outcomes, same_patch, stays, to_front, to_go, in_order_among, needs_are_least}
use Rattle.camp_questions.proofs.Growths.{alone_among, all_within, grew, in_order_there}

-- names can be taken out exactly if the others can be moved to the front
pub others_come : (branch : List Catch) (names : List (List ℕ)) → CanBeTakenOut branch names → CanMoveToFront branch (other_names branch names)
others_come branch names can = elim can.1 [
  | inl w ↦ (w.0, w.1, w.2)
  | inr w ↦ apart_outcomes can.0 w.0.name w.1.name (Ok can.0) refl w.3
]

pub can_go : (branch : List Catch) (names : List (List ℕ)) → CanMoveToFront branch (other_names branch names) → CanBeTakenOut branch names
can_go branch names come = (come.0, inl (come.0, come.1, come.2, refl))

-- if another patch depends on names, the others are blocked
others_stick : (branch : List Catch) (names : List (List ℕ)) (name : List ℕ) → DependsOnTakenOut branch names name → (patch : Key) × (on : Key) × ArrangeIsBlocked (other_names branch names) branch patch on × (name ≡ patch.name)
others_stick branch names name held = elim held.1 [
  | inl w ↦ apart_outcomes w.0 name held.0 (Err (Depends name held.0)) w.3 refl
  | inr w ↦ (w.0, w.1, w.2, same_patch name w.0.name held.0 w.1.name (Err (Depends name held.0)) refl w.3)
]

module _ (branch : List Catch) where
  pub stays_by : (names : List (List ℕ)) (n : List ℕ) → has_patch branch n ≡ true → is_among names n ≡ false → is_among (other_names branch names) n ≡ true
  stays_by names n has e = among_others branch names n ∙ (λ i. has i && not (e i))

  fewer_stay : (names others : List (List ℕ)) → AreAmong names others → (n : List ℕ) → Contains (other_names branch others) n → Contains (other_names branch names) n
  fewer_stay names others among n c =
      let parts = stays branch others n ((is_among_is (other_names branch others) n).0 c) in
      (is_among_is (other_names branch names) n).1 (stays_by names n parts.0 (false_from_ne_true (is_among names n) (λ e. true≢false (sym (among n e) ∙ parts.1))))

  -- the dependents of names are in each list that contains the names and can be taken out
  pub held_within : (others : List (List ℕ)) → IsPlain branch → CanBeTakenOut branch others → (names : List (List ℕ)) (name : List ℕ) → AreAmong names others → DependsOnTakenOut branch names name → is_among others name ≡ true
  held_within others plain can names name among held =
      let come = subst (λ l. CanMoveToFront l (other_names branch others)) plain.are (others_come branch others can) in
      let stuck = others_stick branch names name held in
      let sticks = subst (λ l. ArrangeIsBlocked (other_names branch names) l stuck.0 stuck.1) plain.are stuck.2 in
      let never = what_comes_never_sticks plain.patches (other_names branch names) (other_names branch others) plain.room (fewer_stay names others among) come.0 come.1 come.2 stuck.0 stuck.1 sticks in
      true_from_ne_false (is_among others name) (λ e.
      let there = stays_by others name ((to_go branch).has names name held) e in
      never (subst (Contains (other_names branch others)) stuck.3 ((is_among_is (other_names branch others) name).1 there)))

pub held_is_least : HeldIsLeast
held_is_least branch names held others plain holds among can name there =
    all_within (CanBeTakenOut branch) (DependsOnTakenOut branch) others (held_within branch others plain can) names holds.0 among holds.1 name (in_order_among branch (names ++ holds.0) name (ap (λ l. is_among l name) (sym holds.2) ∙ there))

module _ (branch : List Catch) (plain : IsPlain branch) (x y : List ℕ) (has_x : has_patch branch x ≡ true) (has_y : has_patch branch y ≡ true) (needed held : List (List ℕ)) (needs : Needs branch (y ∷ []) needed) (holds : HeldBy branch (x ∷ []) held) where
  itself : (n : List ℕ) → is_among (n ∷ []) n ≡ true
  itself n = ap (λ b. b || false) (name_itself n)

  came : CanMoveToFront branch needed × (is_among needed y ≡ true)
  came =
      let w = grew branch (CanMoveToFront branch) (AreBlockedBy branch) (to_front branch) (y ∷ []) needed (alone_among y (map name_of branch) has_y) needs in
      (w.0, w.1.has y (itself y))

  went : CanBeTakenOut branch held × (is_among held x ≡ true)
  went =
      let w = grew branch (CanBeTakenOut branch) (DependsOnTakenOut branch) (to_go branch) (x ∷ []) held (alone_among x (map name_of branch) has_x) holds in
      (w.0, w.1.has x (itself x))

  needed_is_held : is_among needed x ≡ true → is_among held y ≡ true
  needed_is_held e = true_from_ne_false (is_among held y) (λ f.
      let others = other_names branch held in
      let among = alone_among y others (stays_by branch held y has_y f) in
      let there = needs_are_least branch (y ∷ []) needed others plain needs among (others_come branch held went.0) x e in
      true≢false (sym went.1 ∙ (stays branch held x there).1))

  -- a name that is not among the others is a dependency
  back_again : (n : List ℕ) → is_among needed n ≡ is_among (other_names branch (other_names branch needed)) n
  back_again n =
      let others = other_names branch needed in
      both_ways (is_among needed n) (is_among (other_names branch others) n)
      (λ e. stays_by branch others n (in_order_there branch ((y ∷ []) ++ needs.0) n (ap (λ l. is_among l n) (sym needs.2) ∙ e)) (false_from_ne_true (is_among others n) (λ f. true≢false (sym e ∙ (stays branch needed n f).1))))
      (λ f.
      let parts = stays branch others n f in
      true_from_ne_false (is_among needed n) (λ e. true≢false (sym (stays_by branch needed n parts.0 e) ∙ parts.1)))

  held_is_needed : is_among held y ≡ true → is_among needed x ≡ true
  held_is_needed e = true_from_ne_false (is_among needed x) (λ f.
      let others = other_names branch needed in
      let come = (to_front branch).done_alike needed (other_names branch others) back_again came.0 in
      let among = alone_among x others (stays_by branch needed x has_x f) in
      let there = held_is_least branch (x ∷ []) held others plain holds among (can_go branch others come) y e in
      true≢false (sym came.1 ∙ (stays branch needed y there).1))

pub needs_and_held_are_one : NeedsAndHeldAreOne
needs_and_held_are_one branch x y needed held plain has_x has_y needs holds =
    (needed_is_held branch plain x y has_x has_y needed held needs holds, held_is_needed branch plain x y has_x has_y needed held needs holds)
