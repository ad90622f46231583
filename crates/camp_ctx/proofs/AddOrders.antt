-- With headroom, adding a list does not depend on the order of its elements.
use Rattle.camp_ctx.proofs.Words.{◌≡◌, List, [], ◌∷◌, ◌++◌, refl, sym, ◌∙◌, subst, append_assoc, inverse_of, Commute, Named, Norm, AddsToContext, AddsAll, ContextedPatch, whole}
use Rattle.camp_prim.proofs.CommuteLaws.{inverse, own_inverse}
use Rattle.camp_seq.specs.Equivalence.{◌~◌, CommutesOnce, same, exchanged, backwards, through}
use Rattle.camp_seq.specs.Room.{HasRoom}
use Rattle.camp_seq.proofs.ListEquivalence.{after_one, before, equal_are, ordered, swapped}
use Rattle.camp_seq.proofs.NormalOrders.{has_normal_order}
use Rattle.camp_seq.proofs.RoomSteps.{at_front, room_before, room_behind, room_exchanged, room_of_equivalent, shared}
use Rattle.camp_ctx.specs.Room.{AddsInAnyOrder, HasRoomToAdd}
use Rattle.camp_ctx.proofs.AddsAlike.{NotPast, NotUndone, Sum, as_sum, from_sum, goes_past, in_own_order, inverse_past, own_order, room_of_sum, stays, sum_left, sum_right, undone}
use Rattle.camp_seq.proofs.EquivalentLists.{front_behind, rests, room_of_rest}
use Rattle.camp_ctx.proofs.PastPatches.{Past, both_past, left_behind, past_alike, past_rest, past_with, two_past}

-- a' and then b' added to c:p give d:q
abbrev pub Turned : Named → Named → List Named → Named → List Named → Named → Type 0
Turned a' b' c p d q = (u : List Named) × (o : Named) × Sum a' c p u o × Sum b' u o d q

module _ (a b b' a' : Named) (k : Commute a b b' a') (c : List Named) (p : Named) (room : HasRoom (a ∷ b ∷ (c ++ p ∷ []))) where
  -- a b <-> b' a', turned round
  back : Commute b' a' a b
  back = own_inverse a b b' a' k

  a_past : Commute a' (inverse_of b) (inverse_of b') a
  a_past = inverse_past a b b' a' k

  b_past : Commute b (inverse_of a') (inverse_of a) b'
  b_past = inverse_past b' a' a b back

  inverses : Commute (inverse_of b) (inverse_of a) (inverse_of a') (inverse_of b')
  inverses = inverse a b b' a' k

  other_room : HasRoom (b' ∷ a' ∷ (c ++ p ∷ []))
  other_room = room_exchanged _ _ (at_front a b b' a' (c ++ p ∷ []) k) room

  room_b : HasRoom (b ∷ c)
  room_b = room_before (b ∷ c) (p ∷ []) (room_behind a (b ∷ (c ++ p ∷ [])) room)

  room_a : HasRoom (a' ∷ c)
  room_a = room_before (a' ∷ c) (p ∷ []) (room_behind b' (a' ∷ (c ++ p ∷ [])) other_room)

  room_c : HasRoom c
  room_c = room_behind b c room_b

  room_both : HasRoom (a ∷ b ∷ c)
  room_both = room_before (a ∷ b ∷ c) (p ∷ []) room

  -- if c does not undo b, what c becomes does not undo b', after a'
  module _ (never : NotUndone b c) where
    not_behind : NotUndone b' (a' ∷ c)
    not_behind e g =
        let n = front_behind a' (inverse_of b) (inverse_of b') a c e a_past room_a g in
        never n.0 n.1

    -- nor does it after a' commutes past
    not_passed : (u : List Named) (q : Named) → Past a' c p u q → NotUndone b' u
    not_passed u q w e g =
        not_behind (e ++ w.passing ∷ []) (through (left_behind a' c p u q w) (before u (inverse_of b' ∷ e) (w.passing ∷ []) g))

    -- nor if a' is undone
    not_after : (d : List Named) → c ~ (inverse_of a' ∷ d) → NotUndone b' d
    not_after d f e g =
        never (inverse_of a ∷ e) (through f (through (after_one (inverse_of a') d (inverse_of b' ∷ e) g) (swapped (inverse_of a') (inverse_of b') (inverse_of b) (inverse_of a) e (own_inverse _ _ _ _ inverses))))

  -- b is undone
  module _ (c1 : List Named) (e : c ~ (inverse_of b ∷ c1)) where
    room_e : HasRoom (inverse_of b ∷ c1)
    room_e = room_of_equivalent c (inverse_of b ∷ c1) e (room_behind b c room_b)

    neither_undone : NotUndone a c1 → NotUndone a' c
    neither_undone never d g =
        let n = front_behind (inverse_of b) (inverse_of a) (inverse_of a') (inverse_of b') c1 d inverses room_e (through (backwards e) g) in
        never n.0 n.1

    neither_past : NotPast a c1 p → NotPast a' c p
    neither_past none d q w =
        let n = past_rest a' (inverse_of b) (inverse_of b') a c1 p d q a_past (past_alike a' c (inverse_of b ∷ c1) p d d q room_a e same w) in
        none n.0 q n.1

    where_undone : (d : List Named) (q : Named) → Sum a c1 p d q → Turned a' b' c p d q
    where_undone d q (undone f is) = (
      inverse_of b' ∷ d,
      p,
      undone (through e (through (after_one (inverse_of b) c1 (inverse_of a ∷ d) f) (swapped (inverse_of b) (inverse_of a) (inverse_of a') (inverse_of b') d inverses))) refl,
      undone same is,
    )
    where_undone d q (goes_past never w) =
        let there : HasRoom (a' ∷ inverse_of b ∷ c1) = room_of_equivalent (a' ∷ c) (a' ∷ inverse_of b ∷ c1) (after_one a' c (inverse_of b ∷ c1) e) room_a in (
          inverse_of b' ∷ d,
          q,
          goes_past (neither_undone never) (past_alike a' (inverse_of b ∷ c1) c p (inverse_of b' ∷ d) (inverse_of b' ∷ d) q there (backwards e) same (past_with a' (inverse_of b) (inverse_of b') a c1 p d q a_past w)),
          undone same refl,
        )
    where_undone d q (stays never none f is) = (
      a' ∷ c,
      p,
      stays (neither_undone never) (neither_past none) same refl,
      undone (through (after_one a' c (inverse_of b ∷ c1) e) (through (swapped a' (inverse_of b) (inverse_of b') a c1 a_past) (after_one (inverse_of b') (a ∷ c1) d f))) is,
    )

  -- the case in which b commutes past
  module _ (never_b : NotUndone b c) (t : List Named) (q : Named) (v : Past b c p t q) where
    not_before : NotUndone a t → NotUndone a' c
    not_before never d g =
        let n = past_rest b (inverse_of a') (inverse_of a) b' d p t q b_past (past_alike b c (inverse_of a' ∷ d) p t t q room_b g same v) in
        never n.0 n.2

    room_t : HasRoom t
    room_t = room_before t (v.passing ∷ []) (room_of_equivalent _ _ (left_behind b c p t q v) room_b)

    where_past : (d : List Named) (z : Named) → Sum a t q d z → Turned a' b' c p d z
    where_past d z (undone f is) =
        let n = front_behind b (inverse_of a') (inverse_of a) b' c (d ++ v.passing ∷ []) b_past room_b (through (left_behind b c p t q v) (before t (inverse_of a ∷ d) (v.passing ∷ []) f)) in
        let w = past_rest b (inverse_of a') (inverse_of a) b' n.0 p t q b_past (past_alike b c (inverse_of a' ∷ n.0) p t t q room_b n.1 same v) in
        let rest : w.0 ~ d = rests (inverse_of a) w.0 d (room_of_equivalent t (inverse_of a ∷ w.0) w.2 room_t) (through (backwards w.2) f) in
        let sum : Sum b' n.0 p d q = sum_right b' n.0 p w.0 d q rest (goes_past (not_after never_b n.0 n.1) w.1) in
        (n.0, p, undone n.1 refl, subst (λ o. Sum b' n.0 p d o) (sym is) sum)
    where_past d z (goes_past never w) =
        let n = two_past a b b' a' c p t q d z room k v w in
        (n.0, n.1, goes_past (not_before never) n.2, goes_past (not_passed never_b n.0 n.1 n.2) n.3)
    where_past d z (stays never none f is) =
        let sum : Sum b' (a' ∷ c) p d q = sum_right b' (a' ∷ c) p (a ∷ t) d q f (goes_past (not_behind never_b) (past_with b' a' a b c p t q back v)) in (
          a' ∷ c,
          p,
          stays (not_before never) (λ u o x. let n = both_past a b b' a' c p t q u o room k v x in none n.0 n.1 n.2) same refl,
          subst (λ o. Sum b' (a' ∷ c) p d o) (sym is) sum,
        )

  -- b stays
  module _ (never_b : NotUndone b c) (none_b : NotPast b c p) (c1 : List Named) (h : (b ∷ c) ~ c1) where
    not_first : NotUndone a c1 → NotUndone a' c
    not_first never d g =
        never (b' ∷ d) (through (backwards h) (through (after_one b c (inverse_of a' ∷ d) g) (swapped b (inverse_of a') (inverse_of a) b' d b_past)))

    where_stays : (d : List Named) (z : Named) → Sum a c1 p d z → Turned a' b' c p d z
    where_stays d z (undone f is) =
        let n = front_behind b (inverse_of a') (inverse_of a) b' c d b_past room_b (through h f) in
        let there : HasRoom (b ∷ inverse_of a' ∷ n.0) = room_of_equivalent (b ∷ c) (b ∷ inverse_of a' ∷ n.0) (after_one b c (inverse_of a' ∷ n.0) n.1) room_b in (
          n.0,
          p,
          undone n.1 refl,
          stays (not_after never_b n.0 n.1) (λ t q w. none_b (inverse_of a ∷ t) q (past_alike b (inverse_of a' ∷ n.0) c p (inverse_of a ∷ t) (inverse_of a ∷ t) q there (backwards n.1) same (past_with b (inverse_of a') (inverse_of a) b' n.0 p t q b_past w))) (backwards n.2) is,
        )
    where_stays d z (goes_past never w) =
        let there : HasRoom (a ∷ c1) = room_of_equivalent (a ∷ b ∷ c) (a ∷ c1) (after_one a (b ∷ c) c1 h) room_both in
        let n = past_rest a b b' a' c p d z k (past_alike a c1 (b ∷ c) p d d z there (backwards h) same w) in (
          n.0,
          z,
          goes_past (not_first never) n.1,
          stays (not_passed never_b n.0 z n.1) (λ t q y. let m = two_past b' a' a b c p n.0 z t q other_room back n.1 y in none_b m.0 m.1 m.2) (backwards n.2) refl,
        )
    where_stays d z (stays never none f is) = (
      a' ∷ c,
      p,
      stays (not_first never) (λ u q w. none (b' ∷ u) q (past_alike a (b ∷ c) c1 p (b' ∷ u) (b' ∷ u) q room_both h same (past_with a b b' a' c p u q k w))) same refl,
      stays (not_behind never_b) (λ u q w. let m = past_rest b' a' a b c p u q back w in none_b m.0 q m.1) (through (swapped b' a' a b c back) (through (after_one a (b ∷ c) c1 h) f)) is,
    )

  turned : (c1 : List Named) (q : Named) (d : List Named) (z : Named) → Sum b c p c1 q → Sum a c1 q d z → Turned a' b' c p d z
  turned c1 q d z (undone e is) s = where_undone c1 e d z (subst (λ o. Sum a c1 o d z) is s)
  turned c1 q d z (goes_past never v) s = where_past never c1 q v d z s
  turned c1 q d z (stays never none h is) s = where_stays never none c1 h d z (subst (λ o. Sum a c1 o d z) is s)

-- two neighbours are added in their other order
two_added : (a b b' a' : Named) (x y z : ContextedPatch) → HasRoom (a ∷ b ∷ whole x) → Commute a b b' a' → AddsToContext b x y → AddsToContext a y z → (u : ContextedPatch) × AddsToContext a' x u × AddsToContext b' u z
two_added a b b' a' x y z room k v w =
    let c : List Named = x.context in
    let p : Named = x.patch in
    let first = as_sum b x (room_behind a (b ∷ whole x) room) y v in
    let room_y : HasRoom (a ∷ whole y) = room_of_sum a b b' a' c p y.context y.patch room k first in
    let n = turned a b b' a' k c p room y.context y.patch z.context z.patch first (as_sum a y room_y z w) in
    let order = has_normal_order n.0 in
    let u : ContextedPatch = record { context = order.0; patch = n.1 } in
    let there : HasRoom (b' ∷ a' ∷ whole x) = other_room a b b' a' k c p room in
    let e = ordered n.0 order.0 order.1 in
    let sum = sum_right a' c p n.0 order.0 n.1 e n.2 in
    let room_u : HasRoom (b' ∷ whole u) = room_of_sum b' a' a b c p order.0 n.1 there (own_inverse a b b' a' k) sum in
    let room_n : HasRoom (b' ∷ n.0) = room_of_equivalent (b' ∷ order.0) (b' ∷ n.0) (after_one b' order.0 n.0 (backwards e)) (room_before (b' ∷ order.0) (n.1 ∷ []) room_u) in
    let own : Norm order.0 order.0 = own_order n.0 order.0 (room_behind b' n.0 room_n) order.1 in
    let second = sum_left b' n.0 order.0 n.1 z.context z.patch room_n e n.3 in
    (u, from_sum a' x (room_behind b' (a' ∷ whole x) there) u own sum, from_sum b' u room_u z (in_own_order a y room_y z w) second)

-- two neighbours of a list
adds_exchanged : (front : List Named) (a b b' a' : Named) (after : List Named) (x y : ContextedPatch) → ((z : ContextedPatch) → AddsAll after x z → HasRoom (a ∷ b ∷ whole z)) → Commute a b b' a' → AddsAll (front ++ a ∷ b ∷ after) x y → AddsAll (front ++ b' ∷ a' ∷ after) x y
adds_exchanged [] a b b' a' after x y room k w =
    let v = w.1 in
    let n = two_added a b b' a' v.0 w.0 y (room v.0 v.1) k v.2 w.2 in
    (n.0, (v.0, v.1, n.1), n.2)
adds_exchanged (e ∷ front) a b b' a' after x y room k w = (w.0, adds_exchanged front a b b' a' after x w.0 room k w.1, w.2)

-- a list is added, with headroom
abbrev AddsInRoom : ContextedPatch → ContextedPatch → List Named → Type 0
AddsInRoom x y r = HasRoomToAdd r x × AddsAll r x y

adds_once : (x y : ContextedPatch) (r s : List Named) → CommutesOnce Commute r s → AddsInRoom x y r → AddsInRoom x y s
adds_once x y r s e (room, w) =
    let all : r ≡ (e.before ++ e.p ∷ e.q ∷ []) ++ e.after = e.was ∙ sym (append_assoc e.before (e.p ∷ e.q ∷ []) e.after) in
    let there : (z : ContextedPatch) → AddsAll e.after x z → HasRoom (e.p ∷ e.q ∷ whole z) =
    λ z v. room_of_rest e.before _ (subst HasRoom (append_assoc e.before (e.p ∷ e.q ∷ []) (whole z)) (room (e.before ++ e.p ∷ e.q ∷ []) e.after (equal_are _ _ all) z v)) in
    let turn = adds_exchanged e.before e.p e.q e.q' e.p' e.after x y there e.turns (subst (λ l. AddsAll l x y) e.was w) in
    (λ first last f. room first last (through (exchanged e) f), subst (λ l. AddsAll l x y) (sym e.becomes) turn)

pub adds_in_any_order : AddsInAnyOrder
adds_in_any_order r s x y room e w = ((shared (AddsInRoom x y) (adds_once x y) r s e).0 (room, w)).1
