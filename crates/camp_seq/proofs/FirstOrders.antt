-- An element followed by a list that is its own normal order.
use Rattle.camp_seq.proofs.Words.{◌≡◌, ◌≢◌, Bool, true, false, IsTrue, ℕ, zero, suc, ◌+◌, ◌<◌, ◌≤◌, List, [], ◌∷◌, ◌++◌, length, take, drop, get_or, set, set-get_or, refl, sym, ap, ◌∙◌, subst, inl, inr, arith, append_assoc, length-set, drop_all, drop_at, drop_more, length-take-le, take_at, take_more_set, Less, label_of, label_cmp, Commute, Label, Named, not_below, not_above, not_below_both, IsLeast, Norm, Fronts, HasRoom, Passes, backwards, swap_unique}
use Rattle.camp_seq.specs.Chains.{CanCommute}
use Rattle.camp_seq.specs.Inside.FirstInOrder.{CommutedRightInOrder, OrderedFrom, StaysAfterFirst, NoneLessCanPass}
use Rattle.camp_seq.proofs.ListEquivalence.{ordered}
use Rattle.camp_seq.proofs.ListSteps.{at_next, drop_next}
use Rattle.camp_seq.proofs.NormalForms.{normal_form}
use Rattle.camp_seq.proofs.OwnOrders.{chain_is_ordered, rest_ordered}
use Rattle.camp_seq.proofs.RoomSteps.{room_of_equivalent}

-- a normal order with headroom is its own normal order
pub own_with_room : (s t : List Named) → HasRoom t → Norm s t → Norm t t
own_with_room s t room n =
    let e = ordered s t n in
    normal_form s t (room_of_equivalent t s (backwards e) room) e t n

-- each suffix of a list that is its own normal order is its own normal order
pub own_behind : (s : List Named) (n : ℕ) → Norm s s → Norm (drop n s) (drop n s)
own_behind [] zero own = own
own_behind [] (suc n) own = own
own_behind (p ∷ s) zero own = own
own_behind (p ∷ s) (suc n) own = own_behind s n (rest_ordered p s own).1

-- an element with a lesser label that x commutes past is first in the normal order
lesser_first : (x q q' x' : Named) (s t : List Named) → label_cmp (label_of q) (label_of x) ≡ Less → Commute x q q' x' → IsLeast (label_of q) (q ∷ s) → Norm (x' ∷ s) t → Norm (x ∷ q ∷ s) (q' ∷ t)
lesser_first x q q' x' s t less swap least n =
    let same : label_of q' ≡ label_of q = swap.anywhere.second in
    let apart : label_of x ≢ label_of q' = λ e. not_below (label_of q) (label_of x) (sym same ∙ sym e) less in
    let first : IsLeast (label_of q) (x ∷ q ∷ s) = λ other y u front. elim front [
      | inl w ↦ subst (λ l. label_cmp l (label_of q) ≢ Less) w.0 (not_above (label_of q) (label_of x) less)
      | inr w ↦ least other w.1.0 w.1.2 w.1.3
    ] in
    (x' ∷ s, inr (apart, (q, x', s, inl (sym same, refl, refl), swap, refl)), subst (λ l. IsLeast l (x ∷ q ∷ s)) (sym same) first, n)

-- x stays first if no element with a lesser label can be moved in front of it
none_first : (x : Named) (s : List Named) → Norm s s → ((other : Label) (y : Named) (t : List Named) → Fronts other s y t → CanCommute x y → label_cmp other (label_of x) ≢ Less) → Norm (x ∷ s) (x ∷ s)
none_first x s own none =
    let least : IsLeast (label_of x) (x ∷ s) = λ other y t front. elim front [
      | inl f ↦ not_below other (label_of x) (sym f.0)
      | inr f ↦ none other f.1.0 f.1.2 f.1.3 (y, (f.1.1, f.1.4))
    ] in
    (s, inl (refl, refl, refl), least, own)

-- the insertion moves x one position to the right
pub goes_in_more : (s0 s : List Named) (x0 x : Named) (i : ℕ) (d q' x' : Named) → Norm s0 s0 → i < length s → label_cmp (label_of (get_or s i d)) (label_of x) ≡ Less → Commute x (get_or s i d) q' x' → CommutedRightInOrder s0 x0 i s x → CommutedRightInOrder s0 x0 (i + 1) (set s i q') x'
goes_in_more s0 s x0 x i d q' x' own within less swap w =
    let q : Named = get_or s i d in
    let next : drop i s0 ≡ q ∷ drop (i + 1) s0 = at_next s0 s i d within w.long w.waiting in
    let least = (rest_ordered q (drop (i + 1) s0) (subst (λ l. Norm l l) next (own_behind s0 i own))).0 in
    record {
      bound = omega (arith, w.long);
      long = length-set s i q' ∙ w.long;
      waiting = drop_next s0 s i d q' within w.long w.waiting;
      ordered = λ t n.
          let all = w.ordered (q' ∷ t) (subst (λ l. Norm (x ∷ l) (q' ∷ t)) (sym next) (lesser_first x q q' x' (drop (i + 1) s0) t less swap least n)) in
          subst (Norm (x0 ∷ s0)) (sym (ap (λ l. l ++ t) (take_more_set s i q' within) ∙ append_assoc (take i s) (q' ∷ []) t)) all;
      passing = λ t p m.
          let v = w.passing t p m in
          let here = subst (λ l. Passes x l v.0 v.1) next v.2 in
          let pair = swap_unique x q here.0 here.1 q' x' here.3 swap in
          (here.2, v.1, subst (λ y. Passes y (drop (i + 1) s0) here.2 v.1) pair.1 here.4);
    }

-- an element that commutes past a suffix commutes past its first element
pub never_stuck : (s0 s : List Named) (x0 x : Named) (i : ℕ) (d : Named) (t : List Named) (p : Named) → i < length s → CommutedRightInOrder s0 x0 i s x → Passes x0 s0 t p → ¬ ((a b : Named) → ¬ (Commute x (get_or s i d) a b))
never_stuck s0 s x0 x i d t p within w m never =
    let v = w.passing t p m in
    let here = subst (λ l. Passes x l v.0 v.1) (at_next s0 s i d within w.long w.waiting) v.2 in
    never here.0 here.1 here.3

-- x stays before an element whose label is not less
pub waits : (s0 s : List Named) (x0 x : Named) (i : ℕ) (d : Named) → Norm s0 s0 → i < length s → label_cmp (label_of (get_or s i d)) (label_of x) ≢ Less → CommutedRightInOrder s0 x0 i s x → Norm (x ∷ drop i s0) (x ∷ drop i s0)
waits s0 s x0 x i d own within not w =
    let q : Named = get_or s i d in
    let rest : List Named = drop (i + 1) s0 in
    let next : drop i s0 ≡ q ∷ rest = at_next s0 s i d within w.long w.waiting in
    let own_rest : Norm (q ∷ rest) (q ∷ rest) = subst (λ l. Norm l l) next (own_behind s0 i own) in
    let first = (rest_ordered q rest own_rest).0 in
    subst (λ l. Norm (x ∷ l) (x ∷ l)) (sym next) (none_first x (q ∷ rest) own_rest (λ other y t front moves. not_below_both other (label_of q) (label_of x) (first other y t front) not))

-- x stays first if it has passed all elements
pub waits_last : (s0 : List Named) (x : Named) (i : ℕ) → length s0 ≤ i → Norm (x ∷ drop i s0) (x ∷ drop i s0)
waits_last s0 x i all = rw (drop_all i s0 all) (chain_is_ordered (x ∷ []) (tt, tt))

pub goes_in_no_more : (s0 s : List Named) (x0 x : Named) (i : ℕ) (d q' x' : Named) → ◌≡◌ {A = Named × Named} (x', q') (x, get_or s i d) → CommutedRightInOrder s0 x0 i s x → CommutedRightInOrder s0 x0 i (set s i q') x'
goes_in_no_more s0 s x0 x i d q' x' e w =
    subst (λ l. CommutedRightInOrder s0 x0 i l x') (sym (ap (set s i) (λ k. (e k).1) ∙ set-get_or s i d)) (subst (CommutedRightInOrder s0 x0 i s) (sym (λ k. (e k).0)) w)

-- if p stays after `last`, and nothing can be moved in front of p, then nothing of p s can be moved in front of
-- `last`
behind_those : (label greatest more : Label) (last p : Named) (s : List Named) → IsLeast (label_of p) (p ∷ s) → StaysAfterFirst greatest last p more → NoneLessCanPass label more p s → NoneLessCanPass label greatest last (p ∷ s)
behind_those label greatest more last p s least (inl w) none other found u (inl f) moves above =
    absurd (above (subst (λ l. label_cmp l greatest ≡ Less) f.0 w.0))
behind_those label greatest more last p s least (inl w) none other found u (inr f) moves above =
    none other f.1.0 f.1.2 f.1.3 (found, (f.1.1, f.1.4)) (subst (λ l. label_cmp other l ≢ Less) (sym w.1) above)
behind_those label greatest more last p s least (inr w) none other found u (inl f) moves above =
    absurd (w.0 (subst (CanCommute last) f.1 moves))
behind_those label greatest more last p s least (inr w) none other found u (inr f) moves above =
    none other f.1.0 f.1.2 f.1.3 (found, (f.1.1, f.1.4)) (subst (λ l. label_cmp other l ≢ Less) (sym w.1) (least other found u (inr f)))

-- x stays first if no element of the list can be moved in front of it
pub first_stays : (x p : Named) (s rest : List Named) → s ≡ p ∷ rest → Norm s s → NoneLessCanPass (label_of x) (label_of p) x s → Norm (x ∷ s) (x ∷ s)
first_stays x p s rest is own none =
    let least = (rest_ordered p rest (subst (λ l. Norm l l) is own)).0 in
    none_first x s own (λ other y t front moves. none other y t front moves (least other y t (subst (λ l. Fronts other l y t) is front)))

-- a check in progress over a list that is its own normal order
module _ (s : List Named) (own : Norm s s) (at : ℕ) (label greatest : Label) (last : Named) (Fact : Type 0) (so_far : NoneLessCanPass label greatest last (drop at s) → Fact) where
  module _ (p : Named) (within : at < length s) (is : p ≡ get_or s at p) where
    next : drop at s ≡ p ∷ drop (at + 1) s
    next = drop_more s at p within ∙ ap (λ q. q ∷ drop (at + 1) s) (sym is)

    least : IsLeast (label_of p) (p ∷ drop (at + 1) s)
    least = (rest_ordered p (drop (at + 1) s) (subst (λ l. Norm l l) next (own_behind s at own))).0

    pub look_on : (more : Label) → StaysAfterFirst greatest last p more → NoneLessCanPass label more p (drop (at + 1) s) → Fact
    look_on more stays none =
        so_far (subst (NoneLessCanPass label greatest last) (sym next) (behind_those label greatest more last p (drop (at + 1) s) least stays none))

    -- the check ends at a label that is not less: no element after it with a lesser label can be moved in front
    pub look_no_further : label_cmp (label_of p) label ≢ Less → Fact
    look_no_further not =
        so_far (subst (NoneLessCanPass label greatest last) (sym next) (λ other found u f moves above. not_below_both other (label_of p) label (least other found u f) not))

  pub looked_at_all : at ≡ length s → Fact
  looked_at_all all =
      so_far (subst (NoneLessCanPass label greatest last) (sym (drop_all at s (omega (arith, all)))) (λ other found u f moves above. absurd f))

-- the list after the insertion: x at its position, and the suffix after it in normal order
pub put_there : (s0 s : List Named) (x0 x : Named) (at : ℕ) (stays : Bool) (items t : List Named) → CommutedRightInOrder s0 x0 at s x → (IsTrue stays → Norm (x ∷ drop at s0) (x ∷ drop at s0)) → items ≡ take at s ++ x ∷ drop at s → OrderedFrom items at stays t → Norm (x0 ∷ s0) t
put_there s0 s x0 x at true items t w own is same =
    subst (Norm (x0 ∷ s0)) (sym (same ∙ is ∙ ap (λ l. take at s ++ x ∷ l) w.waiting)) (w.ordered (x ∷ drop at s0) (own refl))
put_there s0 s x0 x at false items t w own is (rest, order, becomes) =
    let long : length (take at s) ≡ at = length-take-le at s (omega (arith, w.bound, w.long)) in
    let behind : drop at items ≡ x ∷ drop at s0 = ap (drop at) is ∙ drop_at (take at s) (x ∷ drop at s) at long ∙ ap (λ l. x ∷ l) w.waiting in
    let before : take at items ≡ take at s = ap (take at) is ∙ take_at (take at s) (x ∷ drop at s) at long in
    subst (Norm (x0 ∷ s0)) (sym (becomes ∙ ap (λ l. l ++ rest) before)) (w.ordered rest (subst (λ l. Norm l rest) behind order))
