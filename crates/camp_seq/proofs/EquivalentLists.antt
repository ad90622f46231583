-- An element that can be moved to the front of a list with headroom, or commutes past it, does so in each equivalent
-- list.
use Rattle.camp_seq.proofs.Words.{List, [], ◌∷◌, ◌++◌, refl, sym, ap, ◌∙◌, subst, inl, inr, append_assoc, inverse_of, label_of, key_of, Commute, Named, swap_unique, Fronts, Passes, square, ◌~◌, CommutesOnce, same, exchanged, backwards, through, HasRoom}
use Rattle.camp_seq.proofs.LawOfThree.{law_of_three}
use Rattle.camp_seq.proofs.ListEquivalence.{after_one, before, equal_are, fronted, passed, swapped}
use Rattle.camp_seq.proofs.ListResults.{one_front}
use Rattle.camp_seq.proofs.NormalForms.{Near, exchanged_front}
use Rattle.camp_seq.proofs.RoomSteps.{at_front, exchanges_behind, kept_by_swaps, room_before, room_behind, room_exchanged, room_of_equivalent, room_past, shared}

-- if a list has headroom, its rest has headroom
pub room_of_rest : (u s : List Named) → HasRoom (u ++ s) → HasRoom s
room_of_rest [] s room = room
room_of_rest (x ∷ u) s room = room_of_rest u s (room_behind x (u ++ s) room)

near_is : (s t : List Named) → Near s t → s ~ t
near_is s t (inl e) = equal_are s t e
near_is s t (inr e) = exchanged e

-- the element can be moved to the front of the list, and the rest is an equivalent list
abbrev FrontsWith : Named → List Named → List Named → Type 0
FrontsWith y u t = (v : List Named) × Fronts (label_of y) t y v × (u ~ v)

fronts_once : (y : Named) (u s t : List Named) → HasRoom s → CommutesOnce Commute s t → FrontsWith y u s → FrontsWith y u t
fronts_once y u s t room e f =
    let n = exchanged_front (label_of y) s t y f.0 room e f.1 in
    (n.0, n.1, through f.2 (near_is f.0 n.0 n.2))

-- the first element of an equivalent list can be moved to the front
pub comes_first : (y : Named) (s t : List Named) → HasRoom s → s ~ (y ∷ t) → (u : List Named) × Fronts (label_of y) s y u × (t ~ u)
comes_first y s t room e =
    kept_by_swaps (FrontsWith y t) (fronts_once y t) (y ∷ t) s (backwards e) (room_of_equivalent s (y ∷ t) e room) (t, inl (refl, refl, refl), same)

-- equivalent lists that begin with one element have equivalent rests
pub rests : (y : Named) (s t : List Named) → HasRoom (y ∷ s) → (y ∷ s) ~ (y ∷ t) → s ~ t
rests y s t room e =
    let f = comes_first y (y ∷ s) t room e in
    let one = one_front (label_of y) (y ∷ s) s f.0 y y (inl (refl, refl, refl)) f.1 in
    backwards (through f.2 (equal_are f.0 s (sym one.1)))

-- if p q <-> q' p' and q' can be moved to the front of p s, then q can be moved to the front of s
pub front_behind : (p q q' p' : Named) (s e : List Named) → Commute p q q' p' → HasRoom (p ∷ s) → (p ∷ s) ~ (q' ∷ e) → (d : List Named) × (s ~ (q ∷ d)) × (e ~ (p' ∷ d))
front_behind p q q' p' s e w room is =
    let f = comes_first q' (p ∷ s) e room is in
    elim f.1 [
      | inl g ↦ absurd (w.anywhere.apart (ap key_of (g.0 ∙ w.anywhere.second)))
      | inr g ↦
          let a = g.1 in
          let found = swap_unique (inverse_of p) q' a.0 (inverse_of a.1) q (inverse_of p') (square p a.0 q' a.1 a.4) (square p q q' p' w) in
          let left = swap_unique p q q' a.1 q' p' (subst (λ x. Commute p x q' a.1) found.0 a.4) w in (
            a.2,
            through (fronted (label_of q') s a.0 a.2 a.3) (equal_are _ _ (ap (λ x. x ∷ a.2) found.0)),
            through f.2 (equal_are _ _ (a.5 ∙ ap (λ x. x ∷ a.2) left.1)),
          )
    ]

-- an element commutes past the list and leaves an equivalent list
abbrev PassesWith : Named → Named → List Named → List Named → Type 0
PassesWith a a' u t = (t' : List Named) × Passes a t t' a' × (u ~ t')

pass_exchanged : (before : List Named) (a p q q' p' : Named) (after s' : List Named) (a' : Named) → HasRoom (a ∷ (before ++ p ∷ q ∷ after)) → Commute p q q' p' → Passes a (before ++ p ∷ q ∷ after) s' a' → PassesWith a a' s' (before ++ q' ∷ p' ∷ after)
pass_exchanged [] a p q q' p' after s' a' room w v =
    let x = v.4 in
    let n = law_of_three.from_before a p q v.0 v.1 x.0 x.1 q' p' (room_before (a ∷ p ∷ q ∷ []) after room) v.3 x.3 w in (
      n.0 ∷ n.2 ∷ x.2,
      (n.0, n.1, n.2 ∷ x.2, n.3.pr1, (n.2, x.1, x.2, n.3.p1q1, x.4, refl), refl),
      through (equal_are _ _ (v.5 ∙ ap (λ y. v.0 ∷ y) x.5)) (swapped v.0 x.0 n.0 n.2 x.2 n.3.qr2),
    )
pass_exchanged (x ∷ before) a p q q' p' after s' a' room w v =
    let turn : CommutesOnce Commute (a ∷ x ∷ (before ++ p ∷ q ∷ after)) (v.0 ∷ v.1 ∷ (before ++ p ∷ q ∷ after)) = at_front a x v.0 v.1 (before ++ p ∷ q ∷ after) v.3 in
    let rest = pass_exchanged before v.1 p q q' p' after v.2 a' (room_behind v.0 (v.1 ∷ (before ++ p ∷ q ∷ after)) (room_exchanged _ _ turn room)) w v.4 in
    (v.0 ∷ rest.0, (v.0, v.1, rest.0, v.3, rest.1, refl), through (equal_are _ _ v.5) (after_one v.0 v.2 rest.0 rest.2))

-- an element commutes past the list, and the list with it has headroom
abbrev PassesInRoom : Named → Named → List Named → List Named → Type 0
PassesInRoom a a' u t = HasRoom (a ∷ t) × PassesWith a a' u t

pass_once : (a a' : Named) (u s t : List Named) → CommutesOnce Commute s t → PassesInRoom a a' u s → PassesInRoom a a' u t
pass_once a a' u s t e (room, v) =
    let n = pass_exchanged e.before a e.p e.q e.q' e.p' e.after v.0 a' (subst (λ x. HasRoom (a ∷ x)) e.was room) e.turns (subst (λ x. Passes a x v.0 a') e.was v.1) in
    (room_exchanged (a ∷ s) (a ∷ t) (exchanges_behind (a ∷ []) s t e) room, (n.0, subst (λ x. Passes a x n.0 a') (sym e.becomes) n.1, through v.2 n.2))

-- an element that commutes past a list commutes past each equivalent list, and leaves equivalent lists
pub passes_alike : (a : Named) (s t s' : List Named) (a' : Named) → HasRoom (a ∷ s) → s ~ t → Passes a s s' a' → (t' : List Named) × Passes a t t' a' × (s' ~ t')
passes_alike a s t s' a' room e v =
    ((shared (PassesInRoom a a' s') (pass_once a a' s') s t e).0 (room, (s', v, same))).1

-- if a becomes a' as it commutes past s, then a s and s' a' are equivalent, also with more elements after them
pub passed_before : (a : Named) (s s' : List Named) (a' : Named) (u : List Named) → Passes a s s' a' → (a ∷ (s ++ u)) ~ (s' ++ a' ∷ u)
passed_before a s s' a' u w =
    through (before (a ∷ s) (s' ++ a' ∷ []) u (passed a s s' a' w)) (equal_are _ _ (append_assoc s' (a' ∷ []) u))

-- if a b <-> b' a', and b and then a' commute past a list, then a commutes past what b leaves of it
pub both_pass : (c : List Named) (a b b' a' : Named) (t : List Named) (b1 : Named) (u : List Named) (a3 : Named) → HasRoom (a ∷ b ∷ c) → Commute a b b' a' → Passes b c t b1 → Passes a' c u a3 → (s : List Named) × (a1 : Named) × (b3 : Named) × Passes a t s a1 × Commute a1 b1 b3 a3
both_pass [] a b b' a' t b1 u a3 room w v x =
    ([], a, b', subst (λ y. Passes a y [] a) (sym v.0) (refl, refl), subst (λ y. Commute a y b' a3) (sym v.1) (subst (λ y. Commute a b b' y) (sym x.1) w))
both_pass (r ∷ c) a b b' a' t b1 u a3 room w v x =
    let n = law_of_three.from_before a b r b' a' x.0 x.1 v.0 v.1 (room_before (a ∷ b ∷ r ∷ []) c room) w x.3 v.3 in
    let there : HasRoom (n.1 ∷ v.1 ∷ c) = room_past a b r v.0 v.1 n.0 n.1 c v.3 n.3.pr1 room in
    let rest = both_pass c n.1 v.1 n.2 x.1 v.2 b1 x.2 a3 there n.3.p1q1 v.4 x.4 in
    (n.0 ∷ rest.0, rest.1, rest.2, subst (λ y. Passes a y (n.0 ∷ rest.0) rest.1) (sym v.5) (n.0, n.1, rest.0, n.3.pr1, rest.3, refl), rest.4)
