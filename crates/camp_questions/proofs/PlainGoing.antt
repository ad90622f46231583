-- Among plain catches, those that go take along what can't be moved in front of them; and they can be moved to the
-- front of the inverted list.
use Rattle.camp_prim.proofs.CommuteLaws.{inverse}
use Rattle.camp_questions.proofs.Words.{inverse_all-append, inverse_all-cons, Catch, Plain, lists_are_unique, arranged_of_parts, at_end, came_plainly, comes_plainly, not_both, one_at_end, room_left, AllByRecursion}
use Rattle.camp_catch.proofs.Words.{Contains, List, [], ap, append-nil, inl, inr, map, refl, subst, sym, ℕ, ◌++◌, ◌∙◌, ◌∷◌, ◌≡◌, append_assoc, Key, Named, inverse_of, passes_push, room_before, Passes, CommutesBeforeAll, HasRoom, inverse_all, Arrange, ArrangesAfter, IsBlockedAfter}
use Rattle.camp_catch.proofs.PlainFronts.{Parted, comes_past_parts, one_more, one_other}

module _ (names others : List (List ℕ)) (within : (name : List ℕ) → Contains others name → Contains names name) where
  -- two moves to the front: that of the others, which are fewer, succeeds, and that of the names is blocked
  walk : (rest left list x : List Named) → HasRoom (rest ++ list) → Parted names rest x left → (first behind : List Catch) → ArrangesAfter others (map Plain rest) (map Plain list) first behind → (patch on : Key) → IsBlockedAfter names (map Plain left) (map Plain list) patch on → Contains others patch.name → ⊥
  walk rest left [] x room p first behind came patch on stuck has = absurd stuck
  walk rest left (k ∷ list) x room p first behind (inl u) patch on stuck has =
      let come = u.1 in
      let ours = came_plainly rest k come.0 come.1 come.3 in
      let whole : HasRoom ((rest ++ k ∷ []) ++ list) = subst HasRoom (at_end rest k list) room in
      let parts = comes_past_parts names rest x left k ours.0 ours.1 (room_before (rest ++ k ∷ []) list whole) p ours.2 in
      let theirs = comes_plainly left k parts.coming parts.rest parts.comes in
      elim stuck [
        | inl w ↦ not_both left k (Plain parts.coming) (map Plain parts.rest) on theirs w.1
        | inr v ↦ elim v [
          | inl w ↦
              let moved = w.1 in
              let same = (lists_are_unique.comes_before (map Plain left) (Plain k) moved.0 (Plain parts.coming) moved.1 (map Plain parts.rest) moved.2 theirs).1 in
              walk ours.1 parts.rest list parts.front (room_left rest list k ours.0 ours.1 whole ours.2) parts.parted come.2 behind (subst (λ l. ArrangesAfter others l (map Plain list) come.2 behind) ours.4 come.4) patch on (subst (λ l. IsBlockedAfter names l (map Plain list) patch on) same moved.3) has
          | inr w ↦ absurd (w.0 (within k.name u.0))
        ]
      ]
  walk rest left (k ∷ list) x room p first behind (inr u) patch on stuck has =
      let whole : HasRoom ((rest ++ k ∷ []) ++ list) = subst HasRoom (at_end rest k list) room in
      let ours : ArrangesAfter others (map Plain (rest ++ k ∷ [])) (map Plain list) first behind = subst (λ l. ArrangesAfter others l (map Plain list) first behind) (one_at_end rest k) u.1 in
      elim stuck [
        | inl w ↦ absurd (u.0 (subst (λ key. Contains others key.name) w.2 has))
        | inr v ↦ elim v [
          | inl w ↦
              let theirs = came_plainly left k w.1.0 w.1.1 w.1.2 in
              walk (rest ++ k ∷ []) theirs.1 list (x ++ theirs.0 ∷ []) whole (one_more names rest x left k theirs.0 theirs.1 w.0 p theirs.2) first behind ours patch on (subst (λ l. IsBlockedAfter names l (map Plain list) patch on) theirs.4 w.1.3) has
          | inr w ↦
              walk (rest ++ k ∷ []) (left ++ k ∷ []) list x whole (one_other names rest x left k w.0 p) first behind ours patch on (subst (λ l. IsBlockedAfter names l (map Plain list) patch on) (one_at_end left k) w.1) has
        ]
      ]

-- with headroom, if the catches of some names can be moved to the front, they are not blocked when others are moved
-- too
pub what_comes_never_sticks : (patches : List Named) (names others : List (List ℕ)) → HasRoom patches → ((name : List ℕ) → Contains others name → Contains names name) → (first behind : List Catch) → Arrange others (map Plain patches) first behind → (patch on : Key) → IsBlockedAfter names [] (map Plain patches) patch on → ¬ (Contains others patch.name)
what_comes_never_sticks patches names others room within first behind came patch on stuck has =
    walk names others within [] [] patches [] room (refl, refl) first behind came patch on stuck has

-- if k is moved in front of a list, its inverse commutes past the inverted list the other way
pub passes_back : (s : List Named) (k k' : Named) (s' : List Named) → CommutesBeforeAll s k k' s' → Passes (inverse_of k) (inverse_all s) (inverse_all s') (inverse_of k')
passes_back [] k k' s' w = subst (λ l. Passes (inverse_of k) [] (inverse_all l) (inverse_of k')) (sym w.1) (refl, ap inverse_of w.0)
passes_back (j ∷ s) k k' s' w =
    let rest = passes_back s k w.0 w.2 w.3 in
    let more = passes_push (inverse_of k) (inverse_all s) (inverse_all w.2) (inverse_of w.0) (inverse_of j) (inverse_of w.1) (inverse_of k') rest (inverse j w.0 k' w.1 w.4) in
    subst (λ l. Passes (inverse_of k) l (inverse_all s') (inverse_of k')) (sym (inverse_all-cons j s)) (subst (λ l. Passes (inverse_of k) (inverse_all s ++ inverse_of j ∷ []) l (inverse_of k')) (sym (ap inverse_all w.5 ∙ inverse_all-cons w.1 w.2)) more)

inverse_at_end : (s : List Named) (k : Named) → inverse_of k ∷ inverse_all s ≡ inverse_all (s ++ k ∷ [])
inverse_at_end s k = sym (inverse_all-append s (k ∷ []))

module _ (names others : List (List ℕ)) where
  -- a primitive is of the names exactly if it is not of the others
  pub record IsEither (p : Named) : Type 0 where
    pub not_both : Contains names p.name → ¬ (Contains others p.name)
    pub one : ¬ (Contains others p.name) → Contains names p.name

  abbrev pub AreEither : List Named → Type 0
  AreEither s = AllByRecursion IsEither s

  -- so far, the others were moved in front of those of the names; inverted, these are moved in front of the others
  back : (list t f s : List Named) → AreEither list → Parted names s (inverse_all t) (inverse_all f) → (first left : List Catch) → ArrangesAfter others (map Plain t) (map Plain list) first left → (f' : List Named) × (t' : List Named) × Parted names (inverse_all list ++ s) f' t'
  back [] t f s are p first left came = (inverse_all t, inverse_all f, p)
  back (k ∷ list) t f s are p first left (inl w) =
      let come = w.1 in
      let plain = came_plainly t k come.0 come.1 come.3 in
      let now : Parted names (inverse_of k ∷ s) (inverse_all plain.1) (inverse_of plain.0 ∷ inverse_all f) = inr ((λ c. are.0.not_both c w.0), (inverse_all t, inverse_all f, inverse_of plain.0, p, passes_back t k plain.0 plain.1 plain.2, refl)) in
      let next = subst (λ l. Parted names (inverse_of k ∷ s) (inverse_all plain.1) l) (inverse_at_end f plain.0) now in
      let rest = back list plain.1 (f ++ plain.0 ∷ []) (inverse_of k ∷ s) are.1 next come.2 left (subst (λ l. ArrangesAfter others l (map Plain list) come.2 left) plain.4 come.4) in
      (rest.0, rest.1, subst (λ l. Parted names l rest.0 rest.1) (sym (ap (λ l. l ++ s) (inverse_all-cons k list) ∙ append_assoc (inverse_all list) (inverse_of k ∷ []) s)) rest.2)
  back (k ∷ list) t f s are p first left (inr w) =
      let now : Parted names (inverse_of k ∷ s) (inverse_of k ∷ inverse_all t) (inverse_all f) = inl (are.0.one w.0, (inverse_all t, p, refl)) in
      let next = subst (λ l. Parted names (inverse_of k ∷ s) l (inverse_all f)) (inverse_at_end t k) now in
      let rest = back list (t ++ k ∷ []) f (inverse_of k ∷ s) are.1 next first left (subst (λ l. ArrangesAfter others l (map Plain list) first left) (one_at_end t k) w.1) in
      (rest.0, rest.1, subst (λ l. Parted names l rest.0 rest.1) (sym (ap (λ l. l ++ s) (inverse_all-cons k list) ∙ append_assoc (inverse_all list) (inverse_of k ∷ []) s)) rest.2)

  -- if the others of a list can be moved to its front, those of the names can be moved to the front of the inverted
  -- list
  pub comes_taken_back : (list : List Named) → AreEither list → (first left : List Catch) → Arrange others (map Plain list) first left → (front : List Catch) × (behind : List Catch) × Arrange names (map Plain (inverse_all list)) front behind
  comes_taken_back list are first left came =
      let parts = back list [] [] [] are (refl, refl) first left came in
      (map Plain parts.0, map Plain parts.1, arranged_of_parts names [] (inverse_all list) parts.0 parts.1 tt (subst (λ l. Parted names l parts.0 parts.1) (append-nil (inverse_all list)) parts.2))
