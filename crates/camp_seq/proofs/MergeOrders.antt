-- With headroom, whether two lists merge cleanly does not depend on the order of their elements.
use Rattle.camp_seq.proofs.Words.{◌≡◌, List, [], ◌∷◌, ◌++◌, refl, sym, ap, ◌∙◌, subst, append_assoc, inverse_of, Commute, Named, CommutesOnce, ◌~◌, same, exchanged, backwards, through, CleanMerge, Passes, PassesAll, HasRoom, inverse_all}
use Rattle.camp_prim.proofs.CommuteLaws.{inverse}
use Rattle.camp_seq.specs.Room.{HasRoomToMerge, MergeCleanly, MergesInAnyOrder}
use Rattle.camp_seq.proofs.LawOfThree.{law_of_three}
use Rattle.camp_seq.proofs.ListEquivalence.{all_passed, before, behind, equal_are, joined, swapped}
use Rattle.camp_seq.proofs.ListRuns.{inverse_all-cons, inverse_all-append}
use Rattle.camp_seq.proofs.MergeGrid.{merge_is_symmetric, merge_passes, passing_merges}
use Rattle.camp_seq.proofs.RoomSteps.{exchanges_before, room_before, room_behind, room_exchanged, room_of_equivalent, room_past, shared}

-- two neighbours that commute past a list do so in their other order too, and leave the same list
pub two_pass : (b : List Named) (p q q' p' : Named) (t b' : List Named) (q1 p1 : Named) → HasRoom (p ∷ q ∷ b) → Commute p q q' p' → Passes q b t q1 → Passes p t b' p1 → (u : List Named) × (p2 : Named) × (q2 : Named) × Passes p' b u p2 × Passes q' u b' q2 × Commute p1 q1 q2 p2
two_pass [] p q q' p' t b' q1 p1 room w v x =
    let y = subst (λ s. Passes p s b' p1) v.0 x in
    ([], p', q', (refl, refl), (y.0, refl), subst (λ z. Commute z q1 q' p') (sym y.1) (subst (λ z. Commute p z q' p') (sym v.1) w))
two_pass (r ∷ b) p q q' p' t b' q1 p1 room w v x =
    let y = subst (λ s. Passes p s b' p1) v.5 x in
    let n = law_of_three.from_behind p q r q' p' v.0 v.1 y.0 y.1 (room_before (p ∷ q ∷ r ∷ []) b room) w v.3 y.3 in
    let there : HasRoom (y.1 ∷ v.1 ∷ b) = room_past p q r v.0 v.1 y.0 y.1 b v.3 y.3 room in
    let rest = two_pass b y.1 v.1 n.2 n.1 v.2 y.2 q1 p1 there n.3.p1q1 v.4 y.4 in (
      n.0 ∷ rest.0,
      rest.1,
      rest.2,
      (n.0, n.1, rest.0, n.3.pr, rest.3, refl),
      (y.0, n.2, y.2, n.3.qr2, rest.4, y.5),
      rest.5,
    )

-- one exchange in a list that commutes past another
passes_exchanged : (front : List Named) (p q q' p' : Named) (after t t' r' : List Named) → HasRoom ((front ++ p ∷ q ∷ after) ++ t) → Commute p q q' p' → PassesAll (front ++ p ∷ q ∷ after) t t' r' → (u' : List Named) × PassesAll (front ++ q' ∷ p' ∷ after) t t' u'
passes_exchanged [] p q q' p' after t t' r' room w v =
    let a = v.3 in
    let there : HasRoom (p ∷ q ∷ a.0) =
    room_before (p ∷ q ∷ a.0) a.2 (room_of_equivalent (p ∷ q ∷ (after ++ t)) (p ∷ q ∷ (a.0 ++ a.2)) (behind (p ∷ q ∷ []) (after ++ t) (a.0 ++ a.2) (all_passed after t a.0 a.2 a.3)) room) in
    let n = two_pass a.0 p q q' p' v.0 t' a.1 v.1 there w a.4 v.4 in
    (n.2 ∷ n.1 ∷ a.2, (n.0, n.2, n.1 ∷ a.2, (a.0, n.1, a.2, a.3, n.3, refl), n.4, refl))
passes_exchanged (z ∷ front) p q q' p' after t t' r' room w v =
    let n = passes_exchanged front p q q' p' after t v.0 v.2 (room_behind z ((front ++ p ∷ q ∷ after) ++ t) room) w v.3 in
    (v.1 ∷ n.0, (v.0, v.1, n.0, n.1, v.4, refl))

-- a list commutes past another and leaves this one, and both have headroom
abbrev PassesTo : List Named → List Named → List Named → Type 0
PassesTo t t' r = HasRoom (r ++ t) × ((r' : List Named) × PassesAll r t t' r')

passes_once : (t t' r u : List Named) → CommutesOnce Commute r u → PassesTo t t' r → PassesTo t t' u
passes_once t t' r u e (room, (r', v)) =
    let n = passes_exchanged e.before e.p e.q e.q' e.p' e.after t t' r' (subst (λ s. HasRoom (s ++ t)) e.was room) e.turns (subst (λ s. PassesAll s t t' r') e.was v) in
    (room_exchanged (r ++ t) (u ++ t) (exchanges_before r u t e) room, (n.0, subst (λ s. PassesAll s t t' n.0) (sym e.becomes) n.1))

passes_in_any_order : (r u t t' r' : List Named) → HasRoom (r ++ t) → r ~ u → PassesAll r t t' r' → (u' : List Named) × PassesAll u t t' u'
passes_in_any_order r u t t' r' room e v =
    ((shared (PassesTo t t') (passes_once t t') r u e).0 (room, (r', v))).1

inverse_of_two : (p q : Named) (after : List Named) → inverse_all (p ∷ q ∷ after) ≡ inverse_all after ++ inverse_of q ∷ inverse_of p ∷ []
inverse_of_two p q after =
    inverse_all-cons p (q ∷ after) ∙ ap (λ s. s ++ inverse_of p ∷ []) (inverse_all-cons q after) ∙ append_assoc (inverse_all after) (inverse_of q ∷ []) (inverse_of p ∷ [])

-- the inverses of equivalent lists are equivalent
inverses : (s u : List Named) → s ~ u → inverse_all s ~ inverse_all u
inverses s u same = same
inverses s u (backwards e) = backwards (inverses u s e)
inverses s u (through {t = v} e f) = through (inverses s v e) (inverses v u f)
inverses s u (exchanged e) =
    let left : inverse_all s ≡ (inverse_all e.after ++ inverse_of e.q ∷ inverse_of e.p ∷ []) ++ inverse_all e.before =
    ap inverse_all e.was ∙ inverse_all-append e.before (e.p ∷ e.q ∷ e.after) ∙ ap (λ x. x ++ inverse_all e.before) (inverse_of_two e.p e.q e.after) in
    let right : inverse_all u ≡ (inverse_all e.after ++ inverse_of e.p' ∷ inverse_of e.q' ∷ []) ++ inverse_all e.before =
    ap inverse_all e.becomes ∙ inverse_all-append e.before (e.q' ∷ e.p' ∷ e.after) ∙ ap (λ x. x ++ inverse_all e.before) (inverse_of_two e.q' e.p' e.after) in
    let turn = before _ _ (inverse_all e.before) (behind (inverse_all e.after) _ _ (swapped (inverse_of e.q) (inverse_of e.p) (inverse_of e.p') (inverse_of e.q') [] (inverse e.p e.q e.q' e.p' e.turns))) in
    through (equal_are _ _ left) (through turn (equal_are _ _ (sym right)))

-- the first of the two lists in another order
first_in_any_order : (s u t t' s' : List Named) → HasRoom (inverse_all s ++ t) → s ~ u → CleanMerge s t t' s' → (u' : List Named) × CleanMerge u t t' u'
first_in_any_order s u t t' s' room e m =
    let n = passes_in_any_order (inverse_all s) (inverse_all u) t t' (inverse_all s') room (inverses s u e) (merge_passes s t t' s' m) in
    (inverse_all n.0, passing_merges u t t' n.0 n.1)

-- lists equivalent to two lists with headroom have headroom
pub room_in_any_order : (s u t v : List Named) → HasRoomToMerge s t → s ~ u → t ~ v → HasRoomToMerge u v
room_in_any_order s u t v room e f = record {
  forth = room_of_equivalent _ _ (joined (inverse_all s) (inverse_all u) t v (inverses s u e) f) room.forth;
  back = room_of_equivalent _ _ (joined (inverse_all t) (inverse_all v) s u (inverses t v f) e) room.back;
}

pub merges_in_any_order : (s u t v : List Named) → HasRoomToMerge s t → s ~ u → t ~ v → (t' s' : List Named) → CleanMerge s t t' s' → MergeCleanly u v
merges_in_any_order s u t v room e f t' s' m =
    let first = first_in_any_order s u t t' s' room.forth e m in
    let there = room_in_any_order s u t t room e same in
    let second = first_in_any_order t v u first.0 t' there.back f (merge_is_symmetric u t t' first.0 first.1) in
    (second.0, first.0, merge_is_symmetric v u first.0 second.0 second.1)

pub merging_in_any_order : MergesInAnyOrder
merging_in_any_order s u t v room e f =
    let there = room_in_any_order s u t v room e f in (
      there,
      (λ m. merges_in_any_order s u t v room e f m.0 m.1 m.2, λ m. merges_in_any_order u s v t there (backwards e) (backwards f) m.0 m.1 m.2),
    )
