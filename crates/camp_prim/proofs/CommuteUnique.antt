-- The result of commuting two primitives is unique.
use Rattle.camp_prim.proofs.Words.{◌≡◌, ◌+◌, true, false, None, Some, length, refl, sym, ap, ◌∙◌, inl, inr, arith, Edit, label_of, BothCommuteAlike, CommuteIsUnique, path_of, at_line, CommutesBelow, CommutesAbove, PrimitivesCommute, Primitive, Hunk, Named, ℕ, GapAllowsCommute}

pub same_named : (a b : Named) → label_of a ≡ label_of b → a.prim ≡ b.prim → a ≡ b
same_named a b labels prims = λ i. record { name = (labels i).name; place = (labels i).place; inverse = (labels i).inverse; prim = prims i }

pub same_hunk : (h k : Edit) → Hunk h ≡ Hunk k → h ≡ k
same_hunk h k e = cc

-- two hunks that commute change one path or two
pub one_path : (p q : Primitive) (h k : Edit) → p ≡ Hunk h → q ≡ Hunk k → h.path ≡ k.path → path_of p ≡ path_of q
one_path p q h k is_p is_q same = ap path_of is_p ∙ same ∙ sym (ap path_of is_q)

-- two hunks of one path commute if one is below the other
pub hunk_below : {p q q' p' : Primitive} (h k : Edit) (gap : ℕ) → p ≡ Hunk h → q ≡ Hunk k → h.path ≡ k.path → k.line ≡ h.line + length h.new + gap → GapAllowsCommute gap h k → q' ≡ Hunk (at_line (h.line + length h.old + gap) k) → p' ≡ p → PrimitivesCommute p q q' p'
hunk_below h k gap is_p is_q path stands passes second first = inr (inl (record { h = h; k = k; gap = gap; is_p = is_p; is_q = is_q; path = path; stands = stands; passes = passes; second = second; first = first }))

pub hunk_above : {p q q' p' : Primitive} (h k : Edit) (gap : ℕ) → p ≡ Hunk h → q ≡ Hunk k → h.path ≡ k.path → h.line ≡ k.line + length k.old + gap → GapAllowsCommute gap h k → q' ≡ q → p' ≡ Hunk (at_line (k.line + length k.new + gap) h) → PrimitivesCommute p q q' p'
hunk_above h k gap is_p is_q path stands passes second first = inr (inr (record { h = h; k = k; gap = gap; is_p = is_p; is_q = is_q; path = path; stands = stands; passes = passes; second = second; first = first }))

-- two hunks can't each be below the other
pub not_both : (p q q' p' r' o' : Primitive) → CommutesBelow p q q' p' → CommutesAbove p q r' o' → ⊥
not_both p q q' p' r' o' b a =
    let hs : b.h ≡ a.h = same_hunk b.h a.h (sym b.is_p ∙ a.is_p) in
    let ks : b.k ≡ a.k = same_hunk b.k a.k (sym b.is_q ∙ a.is_q) in
    let h_line : b.h.line ≡ a.h.line = ap (λ x. x.line) hs in
    let k_line : b.k.line ≡ a.k.line = ap (λ x. x.line) ks in
    elim b.passes [ inl apart ↦ absurd (omega arith) | inr full ↦ absurd (omega (arith, full)) ]

one_below : (p q q' p' r' o' : Primitive) → CommutesBelow p q q' p' → CommutesBelow p q r' o' → (q' ≡ r') × (p' ≡ o')
one_below p q q' p' r' o' b a =
    let hs : b.h ≡ a.h = same_hunk b.h a.h (sym b.is_p ∙ a.is_p) in
    let ks : b.k ≡ a.k = same_hunk b.k a.k (sym b.is_q ∙ a.is_q) in
    let lines : b.h.line + length b.h.old + b.gap ≡ a.h.line + length a.h.old + a.gap = omega (arith, ap (λ (x : Edit). x.line) hs, ap (λ (x : Edit). x.line) ks, ap (λ (x : Edit). length x.old) hs, ap (λ (x : Edit). length x.new) hs) in
    (b.second ∙ ap (λ l. Hunk (at_line l b.k)) lines ∙ ap (λ k. Hunk (at_line (a.h.line + length a.h.old + a.gap) k)) ks ∙ sym a.second, b.first ∙ sym a.first)

one_above : (p q q' p' r' o' : Primitive) → CommutesAbove p q q' p' → CommutesAbove p q r' o' → (q' ≡ r') × (p' ≡ o')
one_above p q q' p' r' o' b a =
    let hs : b.h ≡ a.h = same_hunk b.h a.h (sym b.is_p ∙ a.is_p) in
    let ks : b.k ≡ a.k = same_hunk b.k a.k (sym b.is_q ∙ a.is_q) in
    let lines : b.k.line + length b.k.new + b.gap ≡ a.k.line + length a.k.new + a.gap = omega (arith, ap (λ (x : Edit). x.line) hs, ap (λ (x : Edit). x.line) ks, ap (λ (x : Edit). length x.old) ks, ap (λ (x : Edit). length x.new) ks) in
    (b.second ∙ sym a.second, b.first ∙ ap (λ l. Hunk (at_line l b.h)) lines ∙ ap (λ h. Hunk (at_line (a.k.line + length a.k.new + a.gap) h)) hs ∙ sym a.first)

one_change : (p q q' p' r' o' : Primitive) → PrimitivesCommute p q q' p' → PrimitivesCommute p q r' o' → (q' ≡ r') × (p' ≡ o')
one_change p q q' p' r' o' (inl x) (inl y) = (x.second ∙ sym y.second, x.first ∙ sym y.first)
one_change p q q' p' r' o' (inl x) (inr (inl y)) = absurd (x.paths (one_path p q y.h y.k y.is_p y.is_q y.path))
one_change p q q' p' r' o' (inl x) (inr (inr y)) = absurd (x.paths (one_path p q y.h y.k y.is_p y.is_q y.path))
one_change p q q' p' r' o' (inr (inl x)) (inl y) = absurd (y.paths (one_path p q x.h x.k x.is_p x.is_q x.path))
one_change p q q' p' r' o' (inr (inl x)) (inr (inl y)) = one_below p q q' p' r' o' x y
one_change p q q' p' r' o' (inr (inl x)) (inr (inr y)) = absurd (not_both p q q' p' r' o' x y)
one_change p q q' p' r' o' (inr (inr x)) (inl y) = absurd (y.paths (one_path p q x.h x.k x.is_p x.is_q x.path))
one_change p q q' p' r' o' (inr (inr x)) (inr (inl y)) = absurd (not_both p q r' o' q' p' y x)
one_change p q q' p' r' o' (inr (inr x)) (inr (inr y)) = one_above p q q' p' r' o' x y

pub swap_unique : CommuteIsUnique
swap_unique p q q' p' r' o' x y =
    let prims = one_change p.prim q.prim q'.prim p'.prim r'.prim o'.prim x.anywhere.change y.anywhere.change in
    (same_named q' r' (x.anywhere.second ∙ sym y.anywhere.second) prims.0, same_named p' o' (x.anywhere.first ∙ sym y.anywhere.first) prims.1)

pub both_commute_alike : BothCommuteAlike
both_commute_alike p q p' q' None true never w = absurd (never (q', p') w)
both_commute_alike p q p' q' None false never w = refl
both_commute_alike p q p' q' (Some found) true v w =
    let pair = swap_unique p q found.0 found.1 q' p' v w in
    λ i. Some (pair.0 i, pair.1 i)
both_commute_alike p q p' q' (Some found) false v w = absurd (w.0 (found.1, found.0) v)
