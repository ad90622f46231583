-- Plain catches: what blocks the patches of some names on their way to the front is among those of other names that
-- were moved there.
use Rattle.camp_catch.proofs.Words.{Contains, List, [], ap, append-nil, inl, inr, map, refl, subst, sym, ℕ, ◌++◌, ◌↔◌, ◌∙◌, ◌∷◌, ◌≡◌, append_assoc, map-append, Key, Named, before, among_or_not, one_precedes, room_before, room_behind, room_of_equivalent, CommutesBeforeAll, HasRoom, bytes_or_not, ArrangesAfter, CatchCommutesBeforeAll, IsBlockedAfter, IsBlockedByKey, BothPlain, CommuteCatch, FrontsFollowFronts, BlockersAreIncluded, Catch, Plain}
use Rattle.camp_catch.proofs.ListResults.{lists_are_unique, lists_succeed_or_are_blocked}
use Rattle.camp_catch.proofs.PlainFronts.{AreOthers, Parted, Stops, comes_or_stops, comes_past_parts, first_comes, one_more, one_other, others_and_one, others_stay, came}

-- a catch that is moved in front of plain catches and is then plain was plain before, and they stay plain
pub came_plainly : (t : List Named) (k : Named) (k' : Catch) (list' : List Catch) → CatchCommutesBeforeAll (map Plain t) (Plain k) k' list' → (p : Named) × (t' : List Named) × CommutesBeforeAll t k p t' × (k' ≡ Plain p) × (list' ≡ map Plain t')
came_plainly [] k k' list' w = (k, [], (refl, refl), w.0, w.1)
came_plainly (j ∷ t) k k' list' w =
    let rest = came_plainly t k w.0 w.2 w.3 in
    let both : BothPlain j rest.0 k' w.1 = subst (λ c. CommuteCatch (Plain j) c k' w.1) rest.3 w.4 in
    (both.b', both.a' ∷ rest.1, (rest.0, both.a', rest.1, rest.2, both.swap, refl), both.second, w.5 ∙ (λ i. both.first i ∷ rest.4 i))

pub comes_plainly : (s : List Named) (k k' : Named) (s' : List Named) → CommutesBeforeAll s k k' s' → CatchCommutesBeforeAll (map Plain s) (Plain k) (Plain k') (map Plain s')
comes_plainly [] k k' s' w = (ap Plain w.0, ap (map Plain) w.1)
comes_plainly (j ∷ s) k k' s' w =
    (Plain w.0, Plain w.1, map Plain w.2, comes_plainly s k w.0 w.2 w.3, record { b' = k'; a' = w.1; swap = w.4; second = refl; first = refl }, ap (map Plain) w.5)

pub stops_plainly : (s : List Named) (k : Named) (on : Key) → Stops s k on → IsBlockedByKey (map Plain s) (Plain k) on
stops_plainly [] k on w = absurd w
stops_plainly (j ∷ s) k on (inl w) = inl (stops_plainly s k on w)
stops_plainly (j ∷ s) k on (inr w) =
    inr (Plain w.0, map Plain w.1, comes_plainly s k w.0 w.1 w.2, (λ k' j' both. w.3 both.b' both.a' both.swap), w.4)

-- a catch cannot be both moved to the front and blocked
pub not_both : {A : Type 0} (s : List Named) (k : Named) (k' : Catch) (list' : List Catch) (on : Key) → CatchCommutesBeforeAll (map Plain s) (Plain k) k' list' → IsBlockedByKey (map Plain s) (Plain k) on → A
not_both s k k' list' on comes stops =
    absurd ((lists_succeed_or_are_blocked.comes_before (map Plain s) (Plain k)).1 (k', list', comes) (on, stops))

pub one_at_end : (s : List Named) (k : Named) → map Plain s ++ Plain k ∷ [] ≡ map Plain (s ++ k ∷ [])
one_at_end s k = sym (map-append Plain s (k ∷ []))

pub at_end : (s : List Named) (k : Named) (list : List Named) → s ++ k ∷ list ≡ (s ++ k ∷ []) ++ list
at_end s k list = sym (append_assoc s (k ∷ []) list)

pub room_left : (s list : List Named) (k first : Named) (rest : List Named) → HasRoom ((s ++ k ∷ []) ++ list) → CommutesBeforeAll s k first rest → HasRoom (rest ++ list)
room_left s list k first rest room w =
    room_behind first (rest ++ list) (room_of_equivalent _ _ (before (s ++ k ∷ []) (first ∷ rest) list (came s k first rest w)) room)

module _ (names others : List (List ℕ)) (within : (name : List ℕ) → Contains names name → Contains others name) where
  -- two moves to the front: the one for the others succeeds, and the one for the names is blocked
  walk : (s t list f : List Named) → HasRoom (s ++ list) → Parted others s f t → (first rest : List Catch) → ArrangesAfter others (map Plain t) (map Plain list) first rest → (patch on : Key) → IsBlockedAfter names (map Plain s) (map Plain list) patch on → Contains others on.name
  walk s t [] f room p first rest came patch on stuck = absurd stuck
  walk s t (k ∷ list) f room p first rest (inl u) patch on stuck =
      let come = u.1 in
      let plain = came_plainly t k come.0 come.1 come.3 in
      let room_all : HasRoom ((s ++ k ∷ []) ++ list) = subst HasRoom (at_end s k list) room in
      let arranges : ArrangesAfter others (map Plain plain.1) (map Plain list) come.2 rest = subst (λ l. ArrangesAfter others l (map Plain list) come.2 rest) plain.4 come.4 in
      let next = comes_or_stops others s f t k plain.0 plain.1 (room_before (s ++ k ∷ []) list room_all) p plain.2 in
      elim stuck [
        | inl w ↦ elim next [
          | inl comes ↦ not_both s k (Plain comes.0) (map Plain comes.1) on (comes_plainly s k comes.0 comes.1 comes.2) w.1
          | inr stops ↦ subst (λ key. Contains others key.name) (lists_are_unique.stops_at (map Plain s) (Plain k) stops.0 on (stops_plainly s k stops.0 stops.1) w.1) stops.2
        ]
        | inr v ↦ elim v [
          | inl w ↦
              let moved = w.1 in
              elim next [
                | inl comes ↦
                    let same = (lists_are_unique.comes_before (map Plain s) (Plain k) moved.0 (Plain comes.0) moved.1 (map Plain comes.1) moved.2 (comes_plainly s k comes.0 comes.1 comes.2)).1 in
                    let parts = comes_past_parts others s f t k comes.0 comes.1 (room_before (s ++ k ∷ []) list room_all) p comes.2 in
                    let still = (one_precedes t k parts.coming plain.0 parts.rest plain.1 parts.comes plain.2).1 in
                    walk comes.1 plain.1 list parts.front (room_left s list k comes.0 comes.1 room_all comes.2) (subst (Parted others comes.1 parts.front) still parts.parted) come.2 rest arranges patch on (subst (λ l. IsBlockedAfter names l (map Plain list) patch on) same moved.3)
                | inr stops ↦ not_both s k moved.0 moved.1 stops.0 moved.2 (stops_plainly s k stops.0 stops.1)
              ]
          | inr w ↦
              walk (s ++ k ∷ []) plain.1 list (f ++ plain.0 ∷ []) room_all (one_more others s f t k plain.0 plain.1 u.0 p plain.2) come.2 rest arranges patch on (subst (λ l. IsBlockedAfter names l (map Plain list) patch on) (one_at_end s k) w.1)
        ]
      ]
  walk s t (k ∷ list) f room p first rest (inr u) patch on stuck = elim stuck [
    | inl w ↦ absurd (u.0 (within k.name w.0))
    | inr v ↦ elim v [
      | inl w ↦ absurd (u.0 (within k.name w.0))
      | inr w ↦
          walk (s ++ k ∷ []) (t ++ k ∷ []) list f (subst HasRoom (at_end s k list) room) (one_other others s f t k u.0 p) first rest (subst (λ l. ArrangesAfter others l (map Plain list) first rest) (one_at_end t k) u.1) patch on (subst (λ l. IsBlockedAfter names l (map Plain list) patch on) (one_at_end s k) w.1)
    ]
  ]

pub blockers_are_included : BlockersAreIncluded
blockers_are_included patches names others room within patch on sticks comes =
    walk names others within [] [] patches [] room (refl, refl) comes.0 comes.1 comes.2 patch on sticks

-- the two parts of a list are what it is arranged to
pub arranged_of_parts : (names : List (List ℕ)) (r list f t : List Named) → AreOthers names r → Parted names (r ++ list) f t → ArrangesAfter names (map Plain r) (map Plain list) (map Plain f) (map Plain t)
arranged_of_parts names r [] f t are p =
    let stay = others_stay names r f t are (subst (λ l. Parted names l f t) (append-nil r) p) in
    (ap (map Plain) stay.0, ap (map Plain) stay.1)
arranged_of_parts names r (k ∷ list) f t are p = elim (among_or_not bytes_or_not names k.name) [
  | inl of ↦
      let come = first_comes names r list f t k of are p in
      inl (of, (Plain come.first, map Plain come.others, map Plain come.rest, comes_plainly r k come.first come.others come.comes, arranged_of_parts names come.others list come.rest t come.are come.parted, ap (map Plain) come.is))
  | inr never ↦
      inr (never, subst (λ l. ArrangesAfter names l (map Plain list) (map Plain f) (map Plain t)) (sym (one_at_end r k)) (arranged_of_parts names (r ++ k ∷ []) list f t (others_and_one names r k are never) (subst (λ l. Parted names l f t) (at_end r k list) p)))
]

module _ (names others wanted : List (List ℕ)) (are : (name : List ℕ) → Contains wanted name ↔ (Contains names name × (¬ (Contains others name)))) where
  -- the catches after those of the names, and those after those of the others: one list comes after all of them
  record BehindAll (rt rc : List Named) : Type 0 where
    first : List Named
    chosen : List Named
    rest : List Named
    of_others : Parted others rt first rest
    of_wanted : Parted wanted rc chosen rest

  -- two moves to the front, of the names and of the others
  two_walks : (rt rc list : List Named) → HasRoom (rt ++ list) → HasRoom (rc ++ list) → BehindAll rt rc → (first left : List Catch) → ArrangesAfter names (map Plain rt) (map Plain list) first left → (front behind : List Catch) → ArrangesAfter others (map Plain rc) (map Plain list) front behind → (list' : List Named) × (f : List Named) × (t : List Named) × (behind ≡ map Plain list') × Parted wanted list' f t
  two_walks rt rc [] room room' all first left v front behind w = (rc, all.chosen, all.rest, w.1, all.of_wanted)
  two_walks rt rc (k ∷ list) room room' all first left (inl v) front behind (inl w) =
      let theirs = came_plainly rt k v.1.0 v.1.1 v.1.3 in
      let ours = came_plainly rc k w.1.0 w.1.1 w.1.3 in
      let whole : HasRoom ((rt ++ k ∷ []) ++ list) = subst HasRoom (at_end rt k list) room in
      let whole' : HasRoom ((rc ++ k ∷ []) ++ list) = subst HasRoom (at_end rc k list) room' in
      let one = comes_past_parts others rt all.first all.rest k theirs.0 theirs.1 (room_before (rt ++ k ∷ []) list whole) all.of_others theirs.2 in
      let two = comes_past_parts wanted rc all.chosen all.rest k ours.0 ours.1 (room_before (rc ++ k ∷ []) list whole') all.of_wanted ours.2 in
      let same = (one_precedes all.rest k one.coming two.coming one.rest two.rest one.comes two.comes).1 in
      two_walks theirs.1 ours.1 list (room_left rt list k theirs.0 theirs.1 whole theirs.2) (room_left rc list k ours.0 ours.1 whole' ours.2) (record { first = one.front; chosen = two.front; rest = two.rest; of_others = subst (Parted others theirs.1 one.front) same one.parted; of_wanted = two.parted }) v.1.2 left (subst (λ l. ArrangesAfter names l (map Plain list) v.1.2 left) theirs.4 v.1.4) w.1.2 behind (subst (λ l. ArrangesAfter others l (map Plain list) w.1.2 behind) ours.4 w.1.4)
  two_walks rt rc (k ∷ list) room room' all first left (inl v) front behind (inr w) =
      let theirs = came_plainly rt k v.1.0 v.1.1 v.1.3 in
      let whole : HasRoom ((rt ++ k ∷ []) ++ list) = subst HasRoom (at_end rt k list) room in
      let one = comes_past_parts others rt all.first all.rest k theirs.0 theirs.1 (room_before (rt ++ k ∷ []) list whole) all.of_others theirs.2 in
      let more = one_more wanted rc all.chosen all.rest k one.coming one.rest ((are k.name).1 (v.0, w.0)) all.of_wanted one.comes in
      two_walks theirs.1 (rc ++ k ∷ []) list (room_left rt list k theirs.0 theirs.1 whole theirs.2) (subst HasRoom (at_end rc k list) room') (record { first = one.front; chosen = all.chosen ++ one.coming ∷ []; rest = one.rest; of_others = one.parted; of_wanted = more }) v.1.2 left (subst (λ l. ArrangesAfter names l (map Plain list) v.1.2 left) theirs.4 v.1.4) front behind (subst (λ l. ArrangesAfter others l (map Plain list) front behind) (one_at_end rc k) w.1)
  two_walks rt rc (k ∷ list) room room' all first left (inr v) front behind (inl w) =
      let ours = came_plainly rc k w.1.0 w.1.1 w.1.3 in
      let whole' : HasRoom ((rc ++ k ∷ []) ++ list) = subst HasRoom (at_end rc k list) room' in
      let two = comes_past_parts wanted rc all.chosen all.rest k ours.0 ours.1 (room_before (rc ++ k ∷ []) list whole') all.of_wanted ours.2 in
      let more = one_more others rt all.first all.rest k two.coming two.rest w.0 all.of_others two.comes in
      two_walks (rt ++ k ∷ []) ours.1 list (subst HasRoom (at_end rt k list) room) (room_left rc list k ours.0 ours.1 whole' ours.2) (record { first = all.first ++ two.coming ∷ []; chosen = two.front; rest = two.rest; of_others = more; of_wanted = two.parted }) first left (subst (λ l. ArrangesAfter names l (map Plain list) first left) (one_at_end rt k) v.1) w.1.2 behind (subst (λ l. ArrangesAfter others l (map Plain list) w.1.2 behind) ours.4 w.1.4)
  two_walks rt rc (k ∷ list) room room' all first left (inr v) front behind (inr w) =
      let theirs = one_other others rt all.first all.rest k w.0 all.of_others in
      let ours = one_other wanted rc all.chosen all.rest k (λ c. v.0 ((are k.name).0 c).0) all.of_wanted in
      two_walks (rt ++ k ∷ []) (rc ++ k ∷ []) list (subst HasRoom (at_end rt k list) room) (subst HasRoom (at_end rc k list) room') (record { first = all.first; chosen = all.chosen; rest = all.rest ++ k ∷ []; of_others = theirs; of_wanted = ours }) first left (subst (λ l. ArrangesAfter names l (map Plain list) first left) (one_at_end rt k) v.1) front behind (subst (λ l. ArrangesAfter others l (map Plain list) front behind) (one_at_end rc k) w.1)

pub fronts_follow_fronts : FrontsFollowFronts
fronts_follow_fronts patches names others wanted room are front behind comes theirs =
    let start : BehindAll names others wanted are [] [] = record { first = []; chosen = []; rest = []; of_others = (refl, refl); of_wanted = (refl, refl) } in
    let w = two_walks names others wanted are [] [] patches room room start theirs.0 theirs.1 theirs.2 front behind comes in
    (map Plain w.1, map Plain w.2, subst (λ l. ArrangesAfter wanted [] l (map Plain w.1) (map Plain w.2)) (sym w.3) (arranged_of_parts wanted [] w.0 w.1 w.2 tt w.4))
