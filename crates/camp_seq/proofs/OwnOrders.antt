-- Lists that are their own normal order: those in which no two neighbours commute, and those in which each element
-- stays after the ones before it.
use Rattle.camp_seq.proofs.Words.{◌≡◌, ◌≢◌, IsTrue, Option, None, Some, ℕ, zero, suc, ◌+◌, ◌-◌, ◌<◌, ◌≤◌, List, [], ◌∷◌, ◌++◌, length, take, drop, get_or, append-nil, take_more, arith, ap, ◌∙◌, refl, sym, subst, inl, inr, ◌⊎◌, Less, label_of, label_cmp, Commute, Label, Named, not_above, not_below, not_below_both, Chain, IsBlockedByFirst, IsBlockedByAll, CommutesBeforeAll, IsLeast, Norm, Fronts}
use Rattle.std.specs.List.{AllByRecursion}
use Rattle.std.specs.Prelude.{IfSome, is_some}
use Rattle.camp_seq.specs.Chains.{CanCommute}
use Rattle.camp_seq.proofs.PassingSteps.{all_hold}
use Rattle.camp_seq.specs.Inside.NextInOrder.{IsInOrder, NoneAbove, StaysInOrder}

-- in a list in which no two neighbours commute only the first element can be moved to the front
pub front_of_chain : (label : Label) (p : Named) (s : List Named) (y : Named) (t : List Named) → Chain (p ∷ s) → Fronts label (p ∷ s) y t → (label_of p ≡ label) × (y ≡ p) × (t ≡ s)
front_of_chain label p s y t c (inl w) = w
front_of_chain label p [] y t c (inr w) = absurd w.1.3
front_of_chain label p (q ∷ s) y t c (inr w) =
    let a = w.1 in
    let rest = front_of_chain label q s a.0 a.2 c.1 a.3 in
    absurd (c.0 (y, (a.1, subst (λ z. Commute p z y a.1) rest.1 a.4)))

-- an element that commutes with the next one
pub no_chain : (s : List Named) (i : ℕ) (p : Named) (t : List Named) → drop i s ≡ p ∷ t → ¬ (IsBlockedByFirst p t) → ¬ (Chain s)
no_chain [] zero p t is moves c = cc
no_chain [] (suc i) p t is moves c = cc
no_chain (q ∷ s) zero p t is moves c = moves (subst Chain is c).0
no_chain (q ∷ s) (suc i) p t is moves c = no_chain s i p t is moves c.1

pub chain_is_ordered : (s : List Named) → Chain s → Norm s s
chain_is_ordered [] c = refl
chain_is_ordered (p ∷ s) c =
    let least : IsLeast (label_of p) (p ∷ s) = λ other y t w. not_below other (label_of p) (sym (front_of_chain other p s y t c w).0) in
    (s, inl (refl, refl, refl), least, chain_is_ordered s c.1)

-- an element that can be moved to the front of a list with one more element is the new one or could be moved before
pub fronts_of_longer : (label : Label) (s : List Named) (x y : Named) (t : List Named) → Fronts label (s ++ x ∷ []) y t → ((u : List Named) × Fronts label s y u) ⊎ ((label_of x ≡ label) × ((u : List Named) × CommutesBeforeAll s x y u))
fronts_of_longer label [] x y t (inl f) = inr (f.0, ([], (f.1, refl)))
fronts_of_longer label [] x y t (inr f) = absurd f.1.3
fronts_of_longer label (q ∷ s) x y t (inl f) = inl (s, inl (f.0, f.1, refl))
fronts_of_longer label (q ∷ s) x y t (inr f) =
    let a = f.1 in
    elim (fronts_of_longer label s x a.0 a.2 a.3) [
      | inl g ↦ inl (a.1 ∷ g.0, inr (f.0, (a.0, a.1, g.0, g.1, a.4, refl)))
      | inr g ↦ inr (g.0, (a.1 ∷ g.1.0, (a.0, a.1, g.1.0, g.1.1, a.4, refl)))
    ]

-- the first element of a list that is its own order is taken first, and the rest is its own order
pub rest_ordered : (p : Named) (s : List Named) → Norm (p ∷ s) (p ∷ s) → IsLeast (label_of p) (p ∷ s) × Norm s s
rest_ordered p s (rest, inl w, least, n) = (least, subst (λ r. Norm r s) w.2 n)
rest_ordered p s (rest, inr w, least, n) = absurd (w.0 refl)

-- x has no lesser label than any element of the list, or can't be moved in front of any
abbrev Behind : List Named → Named → Type 0
Behind s x = NoneAbove (label_of x) s ⊎ IsBlockedByAll s [] x

-- appending x to a list that is its own order keeps it so, if no label there is greater or x is blocked by the list
ordered_with : (s : List Named) (x : Named) → Norm s s → Behind s x → Norm (s ++ x ∷ []) (s ++ x ∷ [])
ordered_with [] x n b = chain_is_ordered (x ∷ []) (tt, tt)
ordered_with (p ∷ s) x n b =
    let first = rest_ordered p s n in
    let least : IsLeast (label_of p) (p ∷ (s ++ x ∷ [])) = λ other y t front. elim (fronts_of_longer other (p ∷ s) x y t front) [
      | inl w ↦ first.0 other y w.0 w.1
      | inr w ↦ elim b [
        | inl above ↦ subst (λ l. label_cmp l (label_of p) ≢ Less) w.0 above.0
        | inr held ↦ absurd (held.0 y w.1.0 (subst (λ l. CommutesBeforeAll (p ∷ l) x y w.1.0) (sym (append-nil s)) w.1.1))
      ]
    ] in
    let rest : Behind s x = elim b [ inl above ↦ inl above.1 | inr held ↦ inr held.1 ] in
    (s ++ x ∷ [], inl (refl, refl, refl), least, ordered_with s x first.1 rest)

-- the last element of a list blocks an element that does not commute with it
held_by_last : (s rest : List Named) (last x : Named) → s ≡ rest ++ last ∷ [] → ¬ (CanCommute last x) → IsBlockedByAll s [] x
held_by_last s rest last x is stuck =
    subst (λ l. IsBlockedByAll l [] x) (sym is) (all_hold rest last [] x x [] (refl, refl) (λ q p w. stuck (q, (p, w))))

-- a label that is not less than the greatest
above_all : (g label : Label) (s : List Named) → label_cmp label g ≢ Less → NoneAbove g s → NoneAbove label s
above_all g label [] more all = tt
above_all g label (p ∷ s) more all = (not_below_both label g (label_of p) more all.0, above_all g label s more all.1)

-- a fact about all elements of a list and one more
pub and_last : (P : Named → Type 0) (s : List Named) (p : Named) → AllByRecursion P s → P p → AllByRecursion P (s ++ p ∷ [])
and_last P [] p all one = (one, tt)
and_last P (q ∷ s) p all one = (all.0, and_last P s p all.1 one)

-- a list in order followed by an element that stays after it is in order
more_in_order : (s rest : List Named) (last x : Named) (greatest more : Label) → s ≡ rest ++ last ∷ [] → IsInOrder s greatest → StaysInOrder greatest last x more → IsInOrder (s ++ x ∷ []) more
more_in_order s rest last x greatest more is in_order (inl w) =
    let above = above_all greatest (label_of x) s w.0 in_order.above in
    subst (IsInOrder (s ++ x ∷ [])) (sym w.1) (record {
      ordered = ordered_with s x in_order.ordered (inl above);
      above = and_last (λ p. label_cmp (label_of x) (label_of p) ≢ Less) s x above (not_below (label_of x) (label_of x) refl);
    })
more_in_order s rest last x greatest more is in_order (inr w) =
    subst (IsInOrder (s ++ x ∷ [])) (sym w.2) (record {
      ordered = ordered_with s x in_order.ordered (inr (held_by_last s rest last x is w.1));
      above = and_last (λ p. label_cmp greatest (label_of p) ≢ Less) s x in_order.above (not_above (label_of x) greatest w.0);
    })

-- the check begins with the first element
pub first_in_order : (s : List Named) (x : Named) → 0 < length s → x ≡ get_or s 0 x → IsInOrder (take 1 s) (label_of x)
first_in_order [] x long is = absurd (omega arith)
first_in_order (p ∷ s) x long is =
    subst (λ y. IsInOrder (p ∷ []) (label_of y)) (sym is) (record { ordered = chain_is_ordered (p ∷ []) (tt, tt); above = (not_below (label_of p) (label_of p) refl, tt) })

-- and goes through the others one by one
pub next_in_order : (s : List Named) (at : ℕ) (last x : Named) (greatest more : Label) → 1 ≤ at → at < length s → last ≡ get_or s (at - 1) last → x ≡ get_or s at x → IsInOrder (take at s) greatest → StaysInOrder greatest last x more → IsInOrder (take (at + 1) s) more
next_in_order s at last x greatest more from within is next in_order stays =
    let i = at - 1 in
    let e : at ≡ i + 1 = omega arith in
    let front : take at s ≡ take i s ++ last ∷ [] = ap (λ n. take n s) e ∙ take_more s i last (omega arith) ∙ ap (λ y. take i s ++ y ∷ []) (sym is) in
    let whole : take (at + 1) s ≡ take at s ++ x ∷ [] = take_more s at x within ∙ ap (λ y. take at s ++ y ∷ []) (sym next) in
    subst (λ l. IsInOrder l more) (sym whole) (more_in_order (take at s) (take i s) last x greatest more front in_order stays)

-- the list and one more element that the check has found to stay after it
pub one_more_told : {A : Type 0} (label : A → Label) (s rest : List Named) (last x : Named) (greatest : Label) (more : Option A) → s ≡ rest ++ last ∷ [] → IsInOrder s greatest → IfSome more (λ y. StaysInOrder greatest last x (label y)) → IsTrue (is_some more) → Norm (s ++ x ∷ []) (s ++ x ∷ [])
one_more_told label s rest last x greatest None is in_order stays never = cc
one_more_told label s rest last x greatest (Some more) is in_order stays holds =
    (more_in_order s rest last x greatest (label more) is in_order stays).ordered

-- a chain, and an element that does not commute with its last one
pub chain_with_last : (s rest : List Named) (last x : Named) → s ≡ rest ++ last ∷ [] → Chain s → ¬ (CanCommute last x) → Norm (s ++ x ∷ []) (s ++ x ∷ [])
chain_with_last s rest last x is c stuck = ordered_with s x (chain_is_ordered s c) (inr (held_by_last s rest last x is stuck))

-- the empty list with one element appended
pub none_in_order : (s : List Named) → length s ≡ 0 → Norm s s
none_in_order [] none = refl
none_in_order (p ∷ s) none = absurd (omega arith)

pub one_alone : (s : List Named) (x : Named) → length s ≡ 0 → Norm (s ++ x ∷ []) (s ++ x ∷ [])
one_alone [] x none = chain_is_ordered (x ∷ []) (tt, tt)
one_alone (p ∷ s) x none = absurd (omega arith)
