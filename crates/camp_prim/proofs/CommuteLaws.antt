-- The laws of commuting two primitives.
use Rattle.camp_prim.proofs.Words.{◌≡◌, ℕ, ◌+◌, length, refl, sym, ap, ◌∙◌, inl, inr, arith, Edit, IsInRange, flipped, inverted, inverse_of, InRange, label_of, key_of, opposite, SameKey, OwnInverse, Inverse, Square, SameEffect, CommuteLaws, path_of, at_line, GapAllowsCommute, Commute, PrimitivesCommute, CommuteAnywhere, Primitive, Add, Remove, Hunk, Named}
use Rattle.camp_prim.proofs.CommuteEffect.{swaps_lead}
use Rattle.camp_prim.proofs.CommuteUnique.{hunk_below, hunk_above}
use Rattle.camp_prim.proofs.Inverses.{path_of-inverted}

passes_back : (gap : ℕ) (h k : Edit) → GapAllowsCommute gap h k → GapAllowsCommute gap k h
passes_back gap h k (inl apart) = inl apart
passes_back gap h k (inr full) = inr (full.2, full.3, full.0, full.1)

passes_flipped : (gap : ℕ) (h k : Edit) → GapAllowsCommute gap h k → GapAllowsCommute gap (flipped h) k
passes_flipped gap h k (inl apart) = inl apart
passes_flipped gap h k (inr full) = inr (full.1, full.0, full.2, full.3)

passes_both_flipped : (gap : ℕ) (h k : Edit) → GapAllowsCommute gap h k → GapAllowsCommute gap (flipped k) (flipped h)
passes_both_flipped gap h k (inl apart) = inl apart
passes_both_flipped gap h k (inr full) = inr (full.3, full.2, full.1, full.0)

in_range-flipped : (hunk : Edit) → IsInRange hunk → IsInRange (flipped hunk)
in_range-flipped hunk r = record { counted = r.counted; changes = omega arith; within = omega arith }

in_range-inverted : (p : Primitive) → InRange p → InRange (inverted p)
in_range-inverted (Add path) r = r
in_range-inverted (Remove path) r = r
in_range-inverted (Hunk hunk) r = in_range-flipped hunk r

-- a hunk is itself at its line
at_own_line : (q : Primitive) (k : Edit) (line : ℕ) → q ≡ Hunk k → k.line ≡ line → q ≡ Hunk (at_line line k)
at_own_line q k line is_q stands = is_q ∙ ap (λ l. Hunk (at_line l k)) stands

pub label-inverse : (p q : Named) → label_of p ≡ label_of q → label_of (inverse_of p) ≡ label_of (inverse_of q)
label-inverse p q e = ap opposite e

pub same_key : (p q p' q' : Named) → label_of p ≡ label_of p' → label_of q ≡ label_of q' → SameKey p q → SameKey p' q'
same_key p q p' q' e f same = sym (ap key_of e) ∙ same ∙ ap key_of f

swaps_back : (p q q' p' : Primitive) → PrimitivesCommute p q q' p' → PrimitivesCommute q' p' p q
swaps_back p q q' p' (inl s) = inl (record {
  paths = λ e. s.paths (ap path_of (sym s.first) ∙ sym e ∙ ap path_of s.second);
  second = sym s.first;
  first = sym s.second;
})
swaps_back p q q' p' (inr (inl s)) =
    hunk_above (at_line (s.h.line + length s.h.old + s.gap) s.k) s.h s.gap s.second (s.first ∙ s.is_p) (sym s.path) refl (passes_back s.gap s.h s.k s.passes) (sym s.first) (at_own_line q s.k (s.h.line + length s.h.new + s.gap) s.is_q s.stands)
swaps_back p q q' p' (inr (inr s)) =
    hunk_below s.k (at_line (s.k.line + length s.k.new + s.gap) s.h) s.gap (s.second ∙ s.is_q) s.first (sym s.path) refl (passes_back s.gap s.h s.k s.passes) (at_own_line p s.h (s.k.line + length s.k.old + s.gap) s.is_p s.stands) (sym s.second)

pub own_inverse_anywhere : (p q q' p' : Named) → CommuteAnywhere p q q' p' → CommuteAnywhere q' p' p q
own_inverse_anywhere p q q' p' s = record {
  apart = λ same. s.apart (sym (same_key q' p' q p s.second s.first same));
  change = swaps_back p.prim q.prim q'.prim p'.prim s.change;
  second = sym s.first;
  first = sym s.second;
}

pub own_inverse : (p q q' p' : Named) → Commute p q q' p' → OwnInverse p q q' p'
own_inverse p q q' p' s =
    record { anywhere = own_inverse_anywhere p q q' p' s.anywhere; ranges = (s.ranges.2, s.ranges.3, s.ranges.0, s.ranges.1) }

swaps_inverse : (p q q' p' : Primitive) → PrimitivesCommute p q q' p' → PrimitivesCommute (inverted q) (inverted p) (inverted p') (inverted q')
swaps_inverse p q q' p' (inl s) = inl (record {
  paths = λ e. s.paths (sym (path_of-inverted p) ∙ sym e ∙ path_of-inverted q);
  second = ap inverted s.first;
  first = ap inverted s.second;
})
swaps_inverse p q q' p' (inr (inl s)) =
    hunk_above (flipped s.k) (flipped s.h) s.gap (ap inverted s.is_q) (ap inverted s.is_p) (sym s.path) s.stands (passes_both_flipped s.gap s.h s.k s.passes) (ap inverted s.first) (ap inverted s.second)
swaps_inverse p q q' p' (inr (inr s)) =
    hunk_below (flipped s.k) (flipped s.h) s.gap (ap inverted s.is_q) (ap inverted s.is_p) (sym s.path) s.stands (passes_both_flipped s.gap s.h s.k s.passes) (ap inverted s.first) (ap inverted s.second)

pub inverse : (p q q' p' : Named) → Commute p q q' p' → Inverse p q q' p'
inverse p q q' p' s = record {
  anywhere = record {
    apart = λ same. s.anywhere.apart (sym same);
    change = swaps_inverse p.prim q.prim q'.prim p'.prim s.anywhere.change;
    second = label-inverse p' p s.anywhere.first;
    first = label-inverse q' q s.anywhere.second;
  };
  ranges = (in_range-inverted q.prim s.ranges.1, in_range-inverted p.prim s.ranges.0, in_range-inverted p'.prim s.ranges.3, in_range-inverted q'.prim s.ranges.2);
}

swaps_square : (p q q' p' : Primitive) → PrimitivesCommute p q q' p' → PrimitivesCommute (inverted p) q' q (inverted p')
swaps_square p q q' p' (inl s) = inl (record {
  paths = λ e. s.paths (sym (path_of-inverted p) ∙ e ∙ ap path_of s.second);
  second = sym s.second;
  first = ap inverted s.first;
})
swaps_square p q q' p' (inr (inl s)) =
    hunk_below (flipped s.h) (at_line (s.h.line + length s.h.old + s.gap) s.k) s.gap (ap inverted s.is_p) s.second s.path refl (passes_flipped s.gap s.h s.k s.passes) (at_own_line q s.k (s.h.line + length s.h.new + s.gap) s.is_q s.stands) (ap inverted s.first)
swaps_square p q q' p' (inr (inr s)) =
    hunk_above (flipped s.h) s.k s.gap (ap inverted s.is_p) (s.second ∙ s.is_q) s.path s.stands (passes_flipped s.gap s.h s.k s.passes) (sym s.second) (ap inverted s.first)

pub square_anywhere : (p q q' p' : Named) → CommuteAnywhere p q q' p' → CommuteAnywhere (inverse_of p) q' q (inverse_of p')
square_anywhere p q q' p' s = record {
  apart = λ same. s.apart (same ∙ ap key_of s.second);
  change = swaps_square p.prim q.prim q'.prim p'.prim s.change;
  second = sym s.second;
  first = label-inverse p' p s.first;
}

pub square : (p q q' p' : Named) → Commute p q q' p' → Square p q q' p'
square p q q' p' s = record {
  anywhere = square_anywhere p q q' p' s.anywhere;
  ranges = (in_range-inverted p.prim s.ranges.0, s.ranges.2, s.ranges.1, in_range-inverted p'.prim s.ranges.3);
}

pub effect : (p q q' p' : Named) → Commute p q q' p' → SameEffect p q q' p'
effect p q q' p' s old new = (swaps_lead p.prim q.prim q'.prim p'.prim old new s.anywhere.change, swaps_lead q'.prim p'.prim p.prim q.prim old new (swaps_back p.prim q.prim q'.prim p'.prim s.anywhere.change))

pub swap_laws : (p q q' p' : Named) → Commute p q q' p' → CommuteLaws p q q' p'
swap_laws p q q' p' s = record {
  own_inverse = own_inverse p q q' p' s;
  inverse = inverse p q q' p' s;
  square = square p q q' p' s;
  effect = effect p q q' p' s;
}
