-- Inserts an element at its position among the following ones, one neighbour at a time.
use Rattle.camp_seq.proofs.Words.{◌≡◌, ◌≢◌, ℕ, ◌+◌, ◌-◌, List, [], ◌∷◌, ◌++◌, length, take, drop, refl, sym, ap, ◌∙◌, subst, inl, inr, arith, append_assoc, length-append, length-take-le, length-drop, take_at, drop_at, take-append-drop, Less, label_of, label_cmp, Named, ◌~◌, backwards, through, IsBlockedByAll, CommutedLeftTo, HasRoom, Label, IsLeast, Norm, Passes, Fronts}
use Rattle.camp_seq.specs.Inside.FirstInOrder.{CommutedLeftInOrder, CommutedRightInOrder}
use Rattle.camp_seq.proofs.EquivalentLists.{comes_first, passes_alike, room_of_rest}
use Rattle.camp_seq.proofs.FirstOrders.{own_behind, own_with_room}
use Rattle.camp_seq.proofs.ListEquivalence.{before, behind, equal_are, fronted, ordered, passed}
use Rattle.camp_seq.proofs.ListResults.{label-front}
use Rattle.camp_seq.proofs.ListSteps.{turned}
use Rattle.camp_seq.proofs.NormalForms.{normal_form}
use Rattle.camp_seq.proofs.OwnOrders.{fronts_of_longer, rest_ordered}
use Rattle.camp_seq.proofs.PassingSteps.{precedes_back}
use Rattle.camp_seq.proofs.RoomSteps.{at_front, room_before, room_behind, room_exchanged, room_of_equivalent}

-- the element can be moved to the front of the list, whatever the rest
abbrev ComesFirst : Label → Named → List Named → Type 0
ComesFirst label y s = (t : List Named) × Fronts label s y t

-- an element that can be moved to the front of a list with headroom can be moved there in each equivalent list
front_of_equivalent : (s t : List Named) → s ~ t → HasRoom s → (label : Label) (y : Named) (u : List Named) → Fronts label s y u → ComesFirst label y t
front_of_equivalent s t e room label y u f =
    let v = comes_first y t u (room_of_equivalent s t e room) (through (backwards e) (fronted label s y u f)) in
    (v.0, subst (λ l. Fronts l t y v.0) (label-front label s y u f) v.1)

-- if x commutes past s, an element that can be moved to the front of s can be moved to the front of what s becomes
front_past : (label : Label) (x : Named) (s s' : List Named) (x' z : Named) (w : List Named) → HasRoom (x ∷ s) → Passes x s s' x' → Fronts label s z w → (z' : Named) × ComesFirst label z' s'
front_past label x s s' x' z w room m f =
    let there = passes_alike x s (z ∷ w) s' x' room (fronted label s z w f) m in
    let v = there.1 in
    let room_of_s' : HasRoom s' = room_before s' (x' ∷ []) (room_of_equivalent (x ∷ s) (s' ++ x' ∷ []) (passed x s s' x' m) room) in
    let first = comes_first v.0 s' v.2 room_of_s' (through there.2 (equal_are _ _ v.5)) in
    (v.0, (first.0, subst (λ l. Fronts l s' v.0 first.0) (v.3.anywhere.second ∙ label-front label s z w f) first.1))

-- if x commutes past a list, and what the list becomes is its own normal order, the list is its own normal order
own_before : (x : Named) (s s' : List Named) (x' : Named) → HasRoom (x ∷ s) → Passes x s s' x' → Norm s' s' → Norm s s
own_before x [] s' x' room m own = refl
own_before x (q ∷ s) s' x' room m own =
    let first = rest_ordered m.0 m.2 (subst (λ l. Norm l l) m.5 own) in
    let room_behind_q : HasRoom (m.1 ∷ s) = room_behind m.0 (m.1 ∷ s) (room_exchanged _ _ (at_front x q m.0 m.1 s m.3) room) in
    let least : IsLeast (label_of q) (q ∷ s) = λ other z w f.
    let g = front_past other x (q ∷ s) s' x' z w room m f in
    subst (λ l. label_cmp other l ≢ Less) m.3.anywhere.second (first.0 other g.0 g.1.0 (subst (λ l. Fronts other l g.0 g.1.0) m.5 g.1.1))
    in
    (s, inl (refl, refl, refl), least, own_before m.1 s m.2 x' room_behind_q m.4 first.1)

-- if a b and t are their own normal order, t is equivalent to b x, and x is blocked there, then a t is its own normal
-- order
own_held : (a b : List Named) (x : Named) (t : List Named) → HasRoom (a ++ t) → t ~ (b ++ x ∷ []) → Norm (a ++ b) (a ++ b) → IsBlockedByAll a b x → Norm t t → Norm (a ++ t) (a ++ t)
own_held [] b x t room e own held n = n
own_held (y ∷ a) b x t room e own held n =
    let first = rest_ordered y (a ++ b) own in
    let all : (y ∷ (a ++ t)) ~ (y ∷ ((a ++ b) ++ x ∷ [])) = through (behind (y ∷ a) t (b ++ x ∷ []) e) (equal_are _ _ (sym (append_assoc (y ∷ a) b (x ∷ [])))) in
    let least : IsLeast (label_of y) (y ∷ (a ++ t)) = λ other z w front.
    let g = front_of_equivalent (y ∷ (a ++ t)) (y ∷ ((a ++ b) ++ x ∷ [])) all room other z w front in
    elim (fronts_of_longer other (y ∷ (a ++ b)) x z g.0 g.1) [
      | inl h ↦ first.0 other z h.0 h.1
      | inr h ↦ absurd (held.0 z h.1.0 h.1.1)
    ]
    in
    (a ++ t, inl (refl, refl, refl), least, own_held a b x t (room_behind y (a ++ t) room) e first.1 held.1 n)

-- a list that is its own normal order is the normal order of each equivalent list with headroom
pub norm_of_equivalent : (s t : List Named) → HasRoom s → s ~ t → Norm t t → Norm s t
norm_of_equivalent s t room e own = normal_form t s (room_of_equivalent s t e room) (backwards e) t own

-- the normal order of a list with headroom is its own normal order
pub own_order : (s t : List Named) → HasRoom s → Norm s t → Norm t t
own_order s t room n = own_with_room s t (room_of_equivalent s t (ordered s t n) room) n

-- an element that was moved forward in a list that is its own normal order
module _ (s0 s : List Named) (x0 x : Named) (from : ℕ) (room : HasRoom (s0 ++ x0 ∷ [])) (own : Norm s0 s0) (w : CommutedLeftTo s0 x0 from s x) where
  back : Passes x (drop from s) (drop from s0) x0
  back = precedes_back (drop from s0) x0 x (drop from s) w.came

  as_was : (x ∷ drop from s) ~ (drop from s0 ++ x0 ∷ [])
  as_was = passed x (drop from s) (drop from s0) x0 back

  parts : s0 ++ x0 ∷ [] ≡ take from s0 ++ (drop from s0 ++ x0 ∷ [])
  parts = ap (λ l. l ++ x0 ∷ []) (sym (take-append-drop from s0)) ∙ append_assoc (take from s0) (drop from s0) (x0 ∷ [])

  room_there : HasRoom (x ∷ drop from s)
  room_there = room_of_equivalent _ _ (backwards as_was) (room_of_rest (take from s0) _ (subst HasRoom parts room))

  -- the elements that it was moved in front of are their own normal order
  pub own_there : Norm (drop from s) (drop from s)
  own_there = own_before x (drop from s) (drop from s0) x0 room_there back (own_behind s0 from own)

  order_held : (t : List Named) → Norm (x ∷ drop from s) t → Norm (s0 ++ x0 ∷ []) (take from s0 ++ t)
  order_held t n =
      let there : t ~ (drop from s0 ++ x0 ∷ []) = through (backwards (ordered (x ∷ drop from s) t n)) as_was in
      let all : (s0 ++ x0 ∷ []) ~ (take from s0 ++ t) = through (equal_are _ _ parts) (behind (take from s0) _ t (backwards there)) in
      let whole : Norm (take from s0 ++ drop from s0) (take from s0 ++ drop from s0) = subst (λ l. Norm l l) (sym (take-append-drop from s0)) own in
      norm_of_equivalent _ _ room all (own_held (take from s0) (drop from s0) x0 t (room_of_equivalent _ _ all room) there whole w.held (own_order _ t room_there n))

  -- it is inserted at the first position where it stays before the rest
  pub comes_in : (part left now : List Named) (at : ℕ) (y : Named) → part ≡ drop from s → CommutedRightInOrder part x at left y → ((t : List Named) (p : Named) → Passes x part t p → Norm (y ∷ drop at part) (y ∷ drop at part)) → now ≡ take from s ++ left → CommutedLeftInOrder s0 x0 (from + at) now y
  comes_in part left now at y is go stays now_is =
      let long : length (take from s) ≡ from = length-take-le from s (omega (arith, w.bound, w.long)) in
      let order = go.ordered (y ∷ drop at part) (stays (drop from s0) x0 (subst (λ l. Passes x l (drop from s0) x0) (sym is) back)) in
      let all = order_held (take at left ++ y ∷ drop at part) (subst (λ l. Norm (x ∷ l) (take at left ++ y ∷ drop at part)) is order) in
      let cut : now ≡ (take from s ++ take at left) ++ drop at left = now_is ∙ ap (λ l. take from s ++ l) (sym (take-append-drop at left)) ∙ sym (append_assoc (take from s) (take at left) (drop at left)) in
      let most : length (take from s ++ take at left) ≡ from + at = length-append (take from s) (take at left) ∙ (λ k. long k + length-take-le at left (omega (arith, go.bound, go.long)) k) in
      record {
        bound = omega (arith, go.bound, ap length is, length-drop from s, w.bound, w.long);
        ordered = rw (ap (take (from + at)) cut ∙ take_at (take from s ++ take at left) (drop at left) (from + at) most, ap (drop (from + at)) cut ∙ drop_at (take from s ++ take at left) (drop at left) (from + at) most, append_assoc (take from s) (take at left) (y ∷ drop at left), w.waiting, go.waiting) all;
      }

-- the elements written from its position on
pub placed_there : (s s0 left items part new : List Named) (x0 x : Named) (at : ℕ) → s ≡ s0 ++ x0 ∷ [] → length left ≡ length s0 → CommutedLeftInOrder s0 x0 at left x → items ≡ left ++ x ∷ [] → part ≡ drop at items → new ≡ drop (length part - 1) part ++ take (length part - 1) part → Norm s (take at items ++ new)
placed_there s s0 left items part new x0 x at was same w is part_is new_is =
    let cut : left ≡ take at left ++ drop at left = sym (take-append-drop at left) in
    let whole : items ≡ take at left ++ (drop at left ++ x ∷ []) = is ∙ ap (λ y. y ++ x ∷ []) cut ∙ append_assoc (take at left) (drop at left) (x ∷ []) in
    let front : length (take at left) ≡ at = length-take-le at left (omega (arith, w.bound, same)) in
    let there : part ≡ drop at left ++ x ∷ [] = part_is ∙ ap (drop at) whole ∙ drop_at (take at left) (drop at left ++ x ∷ []) at front in
    let becomes : take at items ++ new ≡ take at left ++ x ∷ drop at left = ap (λ y. take at items ++ y) (new_is ∙ turned (drop at left) x part there) ∙ ap (λ y. y ++ x ∷ drop at left) (ap (take at) whole ∙ take_at (take at left) (drop at left ++ x ∷ []) at front) in
    rw (was, becomes) w.ordered

-- the first n elements are their own normal order, and the first n + 1 have headroom
module _ (s0 s : List Named) (n : ℕ) (room : HasRoom s0) (equivalent : s0 ~ s) where
  pub room_of_part : HasRoom (take (n + 1) s)
  room_of_part = room_before (take (n + 1) s) (drop (n + 1) s) (subst HasRoom (sym (take-append-drop (n + 1) s)) (room_of_equivalent s0 s equivalent room))

  -- the next element is inserted among them
  pub placed_more : (now : List Named) → length now ≡ n + 1 → Norm (take (n + 1) s) now → (s0 ~ (now ++ drop (n + 1) s)) × Norm (take (n + 1) (now ++ drop (n + 1) s)) (take (n + 1) (now ++ drop (n + 1) s))
  placed_more now long order =
      let part : List Named = take (n + 1) s in
      let rest : List Named = drop (n + 1) s in
      let whole : s ≡ part ++ rest = sym (take-append-drop (n + 1) s) in (
        through equivalent (through (equal_are _ _ whole) (before part now rest (ordered part now order))),
        subst (λ l. Norm l l) (sym (take_at now rest (n + 1) long)) (own_order part now room_of_part order),
      )
