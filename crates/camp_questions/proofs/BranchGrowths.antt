-- Names that grow until they can be moved to the front of a branch, or taken out of it.
use Rattle.camp_questions.proofs.Words.{and_parts, not-true, ◌≡◌, ◌≢◌, ℕ, Bool, true, false, true≢false, not, cond, ◌||◌, List, [], ◌∷◌, ◌++◌, map, None, Some, Ok, Err, bytes_eq, refl, sym, ap, ◌∙◌, inl, inr, ◌↔◌, Contains, Key, Catch, has_patch, is_among, name_of, is_among_is, name_itself, or_true, Next, Has, first_lacked, is_empty, step, DependsOnTakenOut, CanBeTakenOut, CanMoveToFront, AreBlockedBy, other_names, among_others, Contents, after, with_catches, AreAlike, obliterate_alike, AreAmong, HeldCanBeTakenOut, HeldIsDetermined, NeedsAreDetermined, NeedsComeFirst, arrange_by_members, lists_are_unique, lists_succeed_or_are_blocked, Outcome, subst, ArrangeIsBlocked, names_of, among_kept, in_order, IsPlain, NeedsAreLeast, blockers_are_included, outcomes_are_determined, Depends}
use Rattle.camp_call.specs.declared.calls.Call.TheVariants as call
use Rattle.camp_questions.proofs.Growths.{Grow, among_cases, grew, grows_to_one, in_order_there, all_within}
use Rattle.camp_questions.proofs.Stuck.{sticks_between}

pub contains_alike : (names others : List (List ℕ)) → AreAlike names others → (n : List ℕ) → Contains names n ↔ Contains others n
contains_alike names others alike n =
    (λ c. (is_among_is others n).1 (sym (alike n) ∙ (is_among_is names n).0 c), λ c. (is_among_is names n).1 (alike n ∙ (is_among_is others n).0 c))

-- patches can be moved to the front, or are blocked
pub to_front : (branch : List Catch) → Grow (map name_of branch) (CanMoveToFront branch) (AreBlockedBy branch)
to_front branch = record {
  either = λ names. elim (lists_succeed_or_are_blocked.arranges names branch).0 [
    | inl w ↦ inl w
    | inr w ↦ inr (w.1.name, (w.0, w.1, w.2, refl))
  ];
  apart = λ names name done stop. (lists_succeed_or_are_blocked.arranges names branch).1 done (stop.0, stop.1, stop.2);
  one = λ names name other v w. v.3 ∙ ap (λ (key : Key). key.name) (lists_are_unique.arrange_sticks names branch v.0 w.0 v.1 w.1 v.2 w.2).1 ∙ sym w.3;
  has = λ names name stop. ap (is_among (map name_of branch)) stop.3 ∙ (sticks_between names branch stop.0 stop.1 stop.2).0.0;
  lacks = λ names name stop. ap (is_among names) stop.3 ∙ (sticks_between names branch stop.0 stop.1 stop.2).0.1;
  done_alike = λ names others alike done. (done.0, done.1, arrange_by_members.arranged names others (contains_alike names others alike) branch done.0 done.1 done.2);
  stops_alike = λ names others name alike stop. (stop.0, stop.1, arrange_by_members.sticks names others (contains_alike names others alike) branch stop.0 stop.1 stop.2, stop.3);
}

pub apart_outcomes : {A : Type 0} (branch : List Catch) (name on : List ℕ) (outcome : Outcome) → outcome ≡ Ok branch → outcome ≡ Err (Depends name on) → A
apart_outcomes branch name on outcome e f = cc

pub same_patch : (name other on off : List ℕ) (outcome : Outcome) → outcome ≡ Err (Depends name on) → outcome ≡ Err (Depends other off) → name ≡ other
same_patch name other on off outcome e f = cc

-- a patch that stays is of the branch, and does not go
pub stays : (branch : List Catch) (names : List (List ℕ)) (n : List ℕ) → is_among (other_names branch names) n ≡ true → (has_patch branch n ≡ true) × (is_among names n ≡ false)
stays branch names n e =
    let parts = and_parts (has_patch branch n) (not (is_among names n)) (sym (among_others branch names n) ∙ e) in
    (parts.0, not-true (is_among names n) parts.1)

-- the patch that depends on those that are to go is one of the others
held_in : (branch : List Catch) (names : List (List ℕ)) (name : List ℕ) → DependsOnTakenOut branch names name → (has_patch branch name ≡ true) × (is_among names name ≡ false)
held_in branch names name held = elim held.1 [
  | inl w ↦ apart_outcomes w.0 name held.0 (Err (Depends name held.0)) w.3 refl
  | inr w ↦
      let between = sticks_between (other_names branch names) branch w.0 w.1 w.2 in
      let called : name ≡ w.0.name = same_patch name w.0.name held.0 w.1.name (Err (Depends name held.0)) refl w.3 in
      stays branch names name (ap (is_among (other_names branch names)) called ∙ between.2)
]

-- patches can be taken out, or a patch depends on them
pub to_go : (branch : List Catch) → Grow (map name_of branch) (CanBeTakenOut branch) (DependsOnTakenOut branch)
to_go branch = record {
  either = λ names. elim (lists_succeed_or_are_blocked.arranges (other_names branch names) branch).0 [
    | inl w ↦ inl (w.0, inl (w.0, w.1, w.2, refl))
    | inr w ↦ inr (w.0.name, (w.1.name, inr (w.0, w.1, w.2, refl)))
  ];
  apart = λ names name done stop.
      let one = outcomes_are_determined.obliterates branch names in
      apart_outcomes done.0 name stop.0 one.0 (sym (one.2 (Ok done.0) done.1)) (sym (one.2 (Err (Depends name stop.0)) stop.1));
  one = λ names name other v w.
      let one = outcomes_are_determined.obliterates branch names in
      same_patch name other v.0 w.0 one.0 (sym (one.2 (Err (Depends name v.0)) v.1)) (sym (one.2 (Err (Depends other w.0)) w.1));
  has = λ names name stop. (held_in branch names name stop).0;
  lacks = λ names name stop. (held_in branch names name stop).1;
  done_alike = λ names others alike done. (done.0, obliterate_alike names others alike branch (Ok done.0) done.1);
  stops_alike = λ names others name alike stop. (stop.0, obliterate_alike names others alike branch (Err (Depends name stop.0)) stop.1);
}

-- a branch that lacks none of some names has patches of all of them
pub none_lacked_among : (branch : List Catch) (names : List (List ℕ)) → first_lacked branch names ≡ None → AreAmong names (map name_of branch)
none_lacked_among branch [] e name there = absurd (true≢false (sym there))
none_lacked_among branch (n ∷ names) e name there =
    at (has_patch branch n) refl e (λ none more. none_lacked_among branch names none name more)
  where
    at : (b : Bool) → has_patch branch n ≡ b → cond b (first_lacked branch names) (Some n) ≡ None → (first_lacked branch names ≡ None → is_among names name ≡ true → has_patch branch name ≡ true) → has_patch branch name ≡ true
    at true has none rest = elim (among_cases n names name there) [
      | inl same ↦ ap (has_patch branch) same ∙ has
      | inr more ↦ rest none more
    ]
    at false has none rest = cc

-- a branch lacks none of names that are all its own
pub none_lacked : (branch : List Catch) (names : List (List ℕ)) → AreAmong names (map name_of branch) → first_lacked branch names ≡ None
none_lacked branch [] own = refl
none_lacked branch (n ∷ names) own =
    ap (λ b. cond b (first_lacked branch names) (Some n)) (own n (ap (λ b. b || is_among names n) (name_itself n))) ∙ none_lacked branch names (λ name there. own name (or_true (bytes_eq name n) (is_among names name) there))

pub needs_come_first : NeedsComeFirst
needs_come_first branch names needed all needs =
    grew branch (CanMoveToFront branch) (AreBlockedBy branch) (to_front branch) names needed (none_lacked_among branch names all) needs

pub needs_are_determined : NeedsAreDetermined
needs_are_determined branch names = grows_to_one branch (CanMoveToFront branch) (AreBlockedBy branch) (to_front branch) names

pub held_is_determined : HeldIsDetermined
held_is_determined branch names = grows_to_one branch (CanBeTakenOut branch) (DependsOnTakenOut branch) (to_go branch) names

not_empty : (names held : List (List ℕ)) → names ≢ [] → AreAmong names held → is_empty held ≡ false
not_empty [] held some among = absurd (some refl)
not_empty (n ∷ names) [] some among =
    absurd (true≢false (sym (among n (ap (λ b. b || is_among names n) (name_itself n)))))
not_empty (n ∷ names) (m ∷ held) some among = refl

-- an obliteration of names that can be taken out is accepted
accepted_if : (state : Contents) (name : List ℕ) (branch : List Catch) (held : List (List ℕ)) → Has state name branch → first_lacked branch held ≡ None → is_empty held ≡ false → CanBeTakenOut branch held → (next : Contents) × (step state (call.Obliterate name held) ≡ Next next)
accepted_if state name branch held has all some can =
    let gives = sym ((outcomes_are_determined.obliterates branch held).2 (Ok can.0) can.1) in
    (after state (with_catches state.branches name can.0), rw has (rw all (rw some (rw gives refl))))

pub held_can_be_taken_out : HeldCanBeTakenOut
held_can_be_taken_out state name branch names held has all some grows =
    let grown = grew branch (CanBeTakenOut branch) (DependsOnTakenOut branch) (to_go branch) names held (none_lacked_among branch names all) grows in
    let there : first_lacked branch held ≡ None = none_lacked branch held (λ n among. in_order_there branch (names ++ grows.0) n (ap (λ l. is_among l n) (sym grows.2) ∙ among)) in
    (accepted_if state name branch held has there (not_empty names held some grown.1.has) grown.0, grown.1)

-- ---- the dependencies of names are the least list that can be moved to the front, if all catches are plain and have
-- headroom

-- the patch that blocks some names is in each list that has them and can be moved to the front
pub stops_within : (branch : List Catch) (others : List (List ℕ)) → IsPlain branch → CanMoveToFront branch others → (names : List (List ℕ)) (name : List ℕ) → AreAmong names others → AreBlockedBy branch names name → is_among others name ≡ true
stops_within branch others plain come names name among stop =
    let sticks = subst (λ list. ArrangeIsBlocked names list stop.0 stop.1) plain.are stop.2 in
    let along = blockers_are_included plain.patches names others plain.room (λ n c. (is_among_is others n).1 (among n ((is_among_is names n).0 c))) stop.0 stop.1 sticks (subst (λ list. CanMoveToFront list others) plain.are come) in
    (is_among_is others name).0 (subst (λ n. Contains others n) (sym stop.3) along)

-- names put in the order of a branch are among those names
pub in_order_among : (branch : List Catch) (names : List (List ℕ)) → AreAmong (in_order branch names) names
in_order_among branch names n there =
    (and_parts (is_among (names_of branch) n) (is_among names n) (sym (among_kept (is_among names) (names_of branch) n) ∙ there)).1

pub needs_are_least : NeedsAreLeast
needs_are_least branch names needed others plain needs among come name there =
    all_within (CanMoveToFront branch) (AreBlockedBy branch) others (stops_within branch others plain come) names needs.0 among needs.1 name (in_order_among branch (names ++ needs.0) name (ap (λ l. is_among l name) (sym needs.2) ∙ there))
