-- Sorts a list into normal order, one element after the other.
use Rattle.camp_seq.proofs.Words.{◌≡◌, ℕ, ◌+◌, ◌-◌, ◌<◌, List, [], ◌∷◌, ◌++◌, length, take, drop, sym, ap, ◌∙◌, subst, arith, append-nil, append_assoc, length-drop, length_push, length-take-le, take_at, drop_at, drop_all, put_mid, Named, MovesLeastToFront, Norm}

-- the list after its elements from n on are written
pub rest_written : {X : Type 0} (xs ys : List X) (n : ℕ) → put_mid n (length xs - n) xs ys ≡ take n xs ++ ys
rest_written xs ys n =
    let none : drop (length xs - n) (drop n xs) ≡ [] = drop_all (length xs - n) (drop n xs) (rw length-drop (omega arith)) in
    ap (λ x. take n xs ++ (ys ++ x)) none ∙ ap (λ x. take n xs ++ x) (append-nil ys)

-- the list with the next element inserted
pub order_more : (s0 items part now xs : List Named) (at : ℕ) → at < length items → part ≡ drop at items → MovesLeastToFront part now → xs ≡ take at items ++ now → ((t : List Named) → Norm (drop at items) t → Norm s0 (take at items ++ t)) → (t : List Named) → Norm (drop (at + 1) xs) t → Norm s0 (take (at + 1) xs ++ t)
order_more s0 items part now xs at within part_is w xs_is ordered t n =
    let front : List Named = take at items in
    let joined : xs ≡ (front ++ w.first ∷ []) ++ w.rest = xs_is ∙ ap (λ x. front ++ x) w.is ∙ sym (append_assoc front (w.first ∷ []) w.rest) in
    let long : length (front ++ w.first ∷ []) ≡ at + 1 = length_push front w.first ∙ ap (λ k. k + 1) (length-take-le at items (omega arith)) in
    let rest : drop (at + 1) xs ≡ w.rest = ap (drop (at + 1)) joined ∙ drop_at (front ++ w.first ∷ []) w.rest (at + 1) long in
    let done : take (at + 1) xs ≡ front ++ w.first ∷ [] = ap (take (at + 1)) joined ∙ take_at (front ++ w.first ∷ []) w.rest (at + 1) long in
    let next : Norm (drop at items) (w.first ∷ t) = subst (λ x. Norm x (w.first ∷ t)) part_is (w.rest, w.fronts, w.least, subst (λ x. Norm x t) rest n) in
    subst (λ x. Norm s0 x) (sym (ap (λ x. x ++ t) done ∙ append_assoc front (w.first ∷ []) t)) (ordered (w.first ∷ t) next)
