-- What blocks plain patches on their way to the front of a list with headroom.
use Rattle.camp_seq.proofs.LawOfThree.{law_of_three}
use Rattle.camp_catch.proofs.Words.{Contains, List, [], ap, inl, inr, refl, subst, sym, ℕ, ◌++◌, ◌∙◌, ◌∷◌, ◌≡◌, ◌⊎◌, append_assoc, swap_or_not, key_of, label_of, Commute, Key, Named, after_one, before, behind, equal_are, passed, swapped, one_precedes, passes_push, precedes_back, room_before, room_behind, room_of_equivalent, backwards, through, ◌~◌, CommutesBeforeAll, Passes, HasRoom}

-- moving an element in front of a list gives an equivalent list
pub came : (s : List Named) (k k' : Named) (s' : List Named) → CommutesBeforeAll s k k' s' → (s ++ k ∷ []) ~ (k' ∷ s')
came s k k' s' w = backwards (passed k' s' s k (precedes_back s k k' s' w))

-- headroom at each step: j commutes past a, and k is moved in front of what is after them
rooms : (j a q p' : Named) (s : List Named) (k k1 : Named) (s1 : List Named) → HasRoom (j ∷ a ∷ (s ++ k ∷ [])) → Commute j a q p' → CommutesBeforeAll s k k1 s1 → HasRoom (p' ∷ (s ++ k ∷ [])) × HasRoom (j ∷ a ∷ k1 ∷ [])
rooms j a q p' s k k1 s1 room v n =
    (room_behind q _ (room_of_equivalent _ _ (swapped j a q p' (s ++ k ∷ []) v) room), room_before (j ∷ a ∷ k1 ∷ []) s1 (room_of_equivalent _ _ (after_one j _ _ (after_one a _ _ (came s k k1 s1 n))) room))

-- if j commutes past a list, and k is moved in front of the whole list and j commutes past k after it, then j
-- commutes past k before the list too
passes_before : (j : Named) (s s' : List Named) (j' k kt last k1 : Named) (s1 : List Named) → HasRoom (j ∷ (s ++ k ∷ [])) → Passes j s s' j' → Commute j' k kt last → CommutesBeforeAll s k k1 s1 → (first : Named) × (next : Named) × Commute j k1 first next
passes_before j [] s' j' k kt last k1 s1 room m w n =
    (kt, last, subst (λ x. Commute x k1 kt last) m.1 (subst (λ x. Commute j' x kt last) (sym n.0) w))
passes_before j (a ∷ s) s' j' k kt last k1 s1 room m w n =
    let room = rooms j a m.0 m.1 s k n.0 n.2 room m.3 n.3 in
    let before = passes_before m.1 s m.2 j' k kt last n.0 n.2 room.0 m.4 w n.3 in
    let six = law_of_three.from_before j a n.0 m.0 m.1 before.0 before.1 k1 n.1 room.1 m.3 before.2 n.4 in
    (six.0, six.1, six.3.pr1)

-- conversely, if k is moved in front of the list and then j commutes past it, k commutes past j after the list, and
-- is then moved in front of the list
record PassesBehind (j' k y j1 : Named) (s' s1 : List Named) : Type 0 where
  coming : Named
  last : Named
  rest : List Named
  past_last : Commute j' k coming last
  past_list : CommutesBeforeAll s' coming y rest
  passes : Passes j1 s1 rest last

passes_behind : (j : Named) (s s' : List Named) (j' k k1 : Named) (s1 : List Named) (y j1 : Named) → HasRoom (j ∷ (s ++ k ∷ [])) → Passes j s s' j' → CommutesBeforeAll s k k1 s1 → Commute j k1 y j1 → PassesBehind j' k y j1 s' s1
passes_behind j [] s' j' k k1 s1 y j1 room m n w = record {
  coming = y;
  last = j1;
  rest = [];
  past_last = subst (λ x. Commute x k y j1) (sym m.1) (subst (λ x. Commute j x y j1) n.0 w);
  past_list = subst (λ t. CommutesBeforeAll t y y []) (sym m.0) (refl, refl);
  passes = subst (λ t. Passes j1 t [] j1) (sym n.1) (refl, refl);
}
passes_behind j (a ∷ s) s' j' k k1 s1 y j1 room m n w =
    let room = rooms j a m.0 m.1 s k n.0 n.2 room m.3 n.3 in
    let six = law_of_three.from_behind j a n.0 m.0 m.1 k1 n.1 y j1 room.1 m.3 n.4 w in
    let behind = passes_behind m.1 s m.2 j' k n.0 n.2 six.0 six.1 room.0 m.4 n.3 six.3.pr in
    record {
      coming = behind.coming;
      last = behind.last;
      rest = six.2 ∷ behind.rest;
      past_last = behind.past_last;
      past_list = subst (λ t. CommutesBeforeAll t behind.coming y (six.2 ∷ behind.rest)) (sym m.5) (six.0, six.2, behind.rest, behind.past_list, six.3.qr2, refl);
      passes = subst (λ t. Passes j1 t (six.2 ∷ behind.rest) behind.last) (sym n.5) (six.2, six.1, behind.rest, six.3.p1q1, behind.passes, refl);
    }

-- k, moved left over a list, is blocked by the element with this absolute label
abbrev pub Stops : List Named → Named → Key → Type 0
Stops [] k on = ⊥
Stops (j ∷ s) k on =
    Stops s k on
    ⊎ ((coming : Named) × (t : List Named) × CommutesBeforeAll s k coming t × ((k' j' : Named) → ¬ (Commute j coming k' j')) × (on ≡ key_of (label_of j)))

of_swapped : (j k k' j' : Named) → Commute j k k' j' → j'.name ≡ j.name
of_swapped j k k' j' w = ap (λ l. l.name) w.anywhere.first

module _ (names : List (List ℕ)) where
  -- s ~ f t: the primitives of the names, in their order, come before the others
  abbrev pub Parted : List Named → List Named → List Named → Type 0
  Parted [] f t = (f ≡ []) × (t ≡ [])
  Parted (p ∷ s) f t =
      (Contains names p.name × ((g : List Named) × Parted s g t × (f ≡ p ∷ g)))
      ⊎ ((¬ (Contains names p.name)) × ((g : List Named) × (u : List Named) × (p' : Named) × Parted s g u × Passes p g f p' × (t ≡ p' ∷ u)))

  same_parted : (s f t : List Named) → Parted s f t → s ~ (f ++ t)
  same_parted [] f t w = equal_are [] (f ++ t) (λ i. sym w.0 i ++ sym w.1 i)
  same_parted (p ∷ s) f t (inl w) =
      through (after_one p s (w.1.0 ++ t) (same_parted s w.1.0 t w.1.1)) (equal_are _ _ (ap (λ l. l ++ t) (sym w.1.2)))
  same_parted (p ∷ s) f t (inr w) =
      let v = w.1 in
      through (after_one p s (v.0 ++ v.1) (same_parted s v.0 v.1 v.3)) (through (before (p ∷ v.0) (f ++ v.2 ∷ []) v.1 (passed p v.0 f v.2 v.4)) (equal_are _ _ (append_assoc f (v.2 ∷ []) v.1 ∙ ap (λ l. f ++ l) (sym v.5))))

  room_of_front : (j : Named) (s g u : List Named) (k k1 : Named) (u' : List Named) → HasRoom (j ∷ (s ++ k ∷ [])) → Parted s g u → CommutesBeforeAll u k k1 u' → HasRoom (j ∷ (g ++ k1 ∷ []))
  room_of_front j s g u k k1 u' room p n =
      let parts = through (before s (g ++ u) (k ∷ []) (same_parted s g u p)) (equal_are _ _ (append_assoc g u (k ∷ []))) in
      let comes = through (behind g (u ++ k ∷ []) (k1 ∷ u') (came u k k1 u' n)) (equal_are _ _ (sym (append_assoc g (k1 ∷ []) u'))) in
      room_before (j ∷ (g ++ k1 ∷ [])) u' (room_of_equivalent _ _ (after_one j _ _ (through parts comes)) room)

  -- an element that can be moved in front of the whole list can be moved in front of the others, and then of those of
  -- the names
  pub record ComesPastParts (f t s' : List Named) (k y : Named) : Type 0 where
    pub coming : Named
    pub rest : List Named
    pub front : List Named
    pub comes : CommutesBeforeAll t k coming rest
    pub past_front : CommutesBeforeAll f coming y front
    pub parted : Parted s' front rest

  pub comes_past_parts : (s f t : List Named) (k y : Named) (s' : List Named) → HasRoom (s ++ k ∷ []) → Parted s f t → CommutesBeforeAll s k y s' → ComesPastParts f t s' k y
  comes_past_parts [] f t k y s' room p n = record {
    coming = k;
    rest = [];
    front = [];
    comes = subst (λ l. CommutesBeforeAll l k k []) (sym p.1) (refl, refl);
    past_front = subst (λ l. CommutesBeforeAll l k y []) (sym p.0) (n.0, refl);
    parted = subst (λ l. Parted l [] []) (sym n.1) (refl, refl);
  }
  comes_past_parts (j ∷ s) f t k y s' room (inl p) n =
      let come = comes_past_parts s p.1.0 t k n.0 n.2 (room_behind j (s ++ k ∷ []) room) p.1.1 n.3 in
      record {
        coming = come.coming;
        rest = come.rest;
        front = n.1 ∷ come.front;
        comes = come.comes;
        past_front = subst (λ l. CommutesBeforeAll l come.coming y (n.1 ∷ come.front)) (sym p.1.2) (n.0, n.1, come.front, come.past_front, n.4, refl);
        parted = subst (λ l. Parted l (n.1 ∷ come.front) come.rest) (sym n.5) (inl (subst (Contains names) (sym (of_swapped j n.0 y n.1 n.4)) p.0, (come.front, come.parted, refl)));
      }
  comes_past_parts (j ∷ s) f t k y s' room (inr p) n =
      let g = p.1 in
      let come = comes_past_parts s g.0 g.1 k n.0 n.2 (room_behind j (s ++ k ∷ []) room) g.3 n.3 in
      let three = passes_behind j g.0 f g.2 come.coming n.0 come.front y n.1 (room_of_front j s g.0 g.1 k come.coming come.rest room g.3 come.comes) g.4 come.past_front n.4 in
      record {
        coming = three.coming;
        rest = three.last ∷ come.rest;
        front = three.rest;
        comes = subst (λ l. CommutesBeforeAll l k three.coming (three.last ∷ come.rest)) (sym g.5) (come.coming, three.last, come.rest, come.comes, three.past_last, refl);
        past_front = three.past_list;
        parted = subst (λ l. Parted l three.rest (three.last ∷ come.rest)) (sym n.5) (inr ((λ c. p.0 (subst (Contains names) (of_swapped j n.0 y n.1 n.4) c)), (come.front, come.rest, three.last, come.parted, three.passes, refl)));
      }

  -- an element that can be moved in front of the others of a list can be moved in front of the whole list, or is
  -- blocked by one of the names
  pub comes_or_stops : (s f t : List Named) (k kt : Named) (t' : List Named) → HasRoom (s ++ k ∷ []) → Parted s f t → CommutesBeforeAll t k kt t' → ((y : Named) × (s' : List Named) × CommutesBeforeAll s k y s') ⊎ ((on : Key) × Stops s k on × Contains names on.name)
  comes_or_stops [] f t k kt t' room p n = inl (k, [], (refl, refl))
  comes_or_stops (j ∷ s) f t k kt t' room (inl p) n = elim (comes_or_stops s p.1.0 t k kt t' (room_behind j (s ++ k ∷ []) room) p.1.1 n) [
    | inr stop ↦ inr (stop.0, inl stop.1, stop.2)
    | inl come ↦ elim (swap_or_not j come.0) [
      | inr never ↦ inr (key_of (label_of j), inr (come.0, come.1, come.2, (λ k' j' w. never (k', j', w)), refl), p.0)
      | inl w ↦ inl (w.0, w.1 ∷ come.1, (come.0, w.1, come.1, come.2, w.2, refl))
    ]
  ]
  comes_or_stops (j ∷ s) f t k kt t' room (inr p) n =
      let g = p.1 in
      let m = subst (λ l. CommutesBeforeAll l k kt t') g.5 n in
      elim (comes_or_stops s g.0 g.1 k m.0 m.2 (room_behind j (s ++ k ∷ []) room) g.3 m.3) [
        | inr stop ↦ inr (stop.0, inl stop.1, stop.2)
        | inl come ↦
            let parts = comes_past_parts s g.0 g.1 k come.0 come.1 (room_behind j (s ++ k ∷ []) room) g.3 come.2 in
            let same = one_precedes g.1 k parts.coming m.0 parts.rest m.2 parts.comes m.3 in
            let w = passes_before j g.0 f g.2 m.0 kt m.1 come.0 parts.front (room_of_front j s g.0 g.1 k m.0 m.2 room g.3 m.3) g.4 m.4 (subst (λ x. CommutesBeforeAll g.0 x come.0 parts.front) same.0 parts.past_front) in
            inl (w.0, w.1 ∷ come.1, (come.0, w.1, come.1, come.2, w.2, refl))
      ]

  -- one more catch of the names comes after those already moved
  pub one_more : (s f t : List Named) (k kt : Named) (t' : List Named) → Contains names k.name → Parted s f t → CommutesBeforeAll t k kt t' → Parted (s ++ k ∷ []) (f ++ kt ∷ []) t'
  one_more [] f t k kt t' is p n =
      let at : (kt ≡ k) × (t' ≡ []) = subst (λ l. CommutesBeforeAll l k kt t') p.1 n in
      inl (is, ([], (refl, at.1), λ i. p.0 i ++ at.0 i ∷ []))
  one_more (j ∷ s) f t k kt t' is (inl p) n =
      inl (p.0, (p.1.0 ++ kt ∷ [], one_more s p.1.0 t k kt t' is p.1.1 n, ap (λ l. l ++ kt ∷ []) p.1.2))
  one_more (j ∷ s) f t k kt t' is (inr p) n =
      let g = p.1 in
      let m = subst (λ l. CommutesBeforeAll l k kt t') g.5 n in
      inr (p.0, (g.0 ++ m.0 ∷ [], m.2, m.1, one_more s g.0 g.1 k m.0 m.2 is g.3 m.3, passes_push j g.0 f g.2 m.0 kt m.1 g.4 m.4, m.5))

  -- a catch that is of none of the names stays at its position
  pub one_other : (s f t : List Named) (k : Named) → ¬ (Contains names k.name) → Parted s f t → Parted (s ++ k ∷ []) f (t ++ k ∷ [])
  one_other [] f t k never p =
      inr (never, ([], [], k, (refl, refl), (p.0, refl), ap (λ l. l ++ k ∷ []) p.1))
  one_other (j ∷ s) f t k never (inl p) = inl (p.0, (p.1.0, one_other s p.1.0 t k never p.1.1, p.1.2))
  one_other (j ∷ s) f t k never (inr p) =
      let g = p.1 in
      inr (p.0, (g.0, g.1 ++ k ∷ [], g.2, one_other s g.0 g.1 k never g.3, g.4, ap (λ l. l ++ k ∷ []) g.5))

  -- no element of a list is of the names
  abbrev pub AreOthers : List Named → Type 0
  AreOthers [] = Unit {0}
  AreOthers (p ∷ s) = (¬ (Contains names p.name)) × AreOthers s

  pub others_and_one : (s : List Named) (k : Named) → AreOthers s → ¬ (Contains names k.name) → AreOthers (s ++ k ∷ [])
  others_and_one [] k are never = (never, tt)
  others_and_one (j ∷ s) k are never = (are.0, others_and_one s k are.1 never)

  -- a list of the others only is unchanged
  pub others_stay : (s f t : List Named) → AreOthers s → Parted s f t → (f ≡ []) × (t ≡ s)
  others_stay [] f t are p = p
  others_stay (j ∷ s) f t are (inl p) = absurd (are.0 p.0)
  others_stay (j ∷ s) f t are (inr p) =
      let g = p.1 in
      let rest = others_stay s g.0 g.1 are.1 g.3 in
      let m = subst (λ l. Passes j l f g.2) rest.0 g.4 in
      (m.0, g.5 ∙ (λ i. m.1 i ∷ rest.1 i))

  -- the first catch of the names is moved in front of the others
  pub record FirstComes (r list f t : List Named) (k : Named) : Type 0 where
    pub first : Named
    pub rest : List Named
    pub others : List Named
    pub comes : CommutesBeforeAll r k first others
    pub is : f ≡ first ∷ rest
    pub are : AreOthers others
    pub parted : Parted (others ++ list) rest t

  pub first_comes : (r list f t : List Named) (k : Named) → Contains names k.name → AreOthers r → Parted (r ++ k ∷ list) f t → FirstComes r list f t k
  first_comes [] list f t k of are (inl p) =
      record { first = k; rest = p.1.0; others = []; comes = (refl, refl); is = p.1.2; are = tt; parted = p.1.1 }
  first_comes [] list f t k of are (inr p) = absurd (p.0 of)
  first_comes (j ∷ r) list f t k of are (inl p) = absurd (are.0 p.0)
  first_comes (j ∷ r) list f t k of are (inr p) =
      let g = p.1 in
      let come = first_comes r list g.0 g.1 k of are.1 g.3 in
      let m = subst (λ l. Passes j l f g.2) come.is g.4 in
      let still = subst (λ n. ¬ (Contains names n)) (sym (of_swapped j come.first m.0 m.1 m.3)) are.0 in
      record { first = m.0; rest = m.2; others = m.1 ∷ come.others; comes = (come.first, m.1, come.others, come.comes, m.3, refl); is = m.5; are = (still, come.are); parted = inr (still, (come.rest, g.1, g.2, come.parted, m.4, g.5)) }
