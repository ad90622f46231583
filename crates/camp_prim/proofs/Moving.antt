-- The lines to which hunks move when they commute.
use Rattle.camp_prim.proofs.Words.{◌≡◌, ℕ, ◌+◌, ◌<◌, ◌⊎◌, ◌↔◌, Bool, true, false, IsTrue, Option, option_map, length, refl, sym, ap, subst, inl, inr, Lines, InRange, Edit, IsInRange, SameKey, FindsPair, moved, commuted_to_targets, IsTargetLine, CommutesInRange, at_line, Commute, Primitive, Hunk, Named, Targets}
use Rattle.camp_prim.proofs.CommuteUnique.{same_hunk, hunk_above, hunk_below}

-- the sides of the upper hunk as other names for them have it
pub comes_along : (upper upper' takes takes' leaves leaves' : ℕ) (lower : Edit) (line : ℕ) → upper ≡ upper' → takes ≡ takes' → leaves ≡ leaves' → IsTargetLine upper takes leaves lower line → IsTargetLine upper' takes' leaves' lower line
comes_along upper upper' takes takes' leaves leaves' lower line e f g c =
    subst (λ x. IsTargetLine upper' takes' x lower line) g (subst (λ x. IsTargetLine upper' x leaves lower line) f (subst (λ x. IsTargetLine x takes leaves lower line) e c))

pub comes_below : (h k : Edit) (line : ℕ) → h.path ≡ k.path → IsInRange h → IsInRange k → IsTargetLine h.line (length h.old) (length h.new) k line → CommutesInRange (Hunk h) (Hunk k) (Hunk (at_line line k)) (Hunk h)
comes_below h k line path r s c = record {
  change = hunk_below h k c.gap refl refl path c.stands c.passes (ap (λ l. Hunk (at_line l k)) c.comes) refl;
  ranges = (r, s, c.fits, r);
}

passes_turned : (gap a b c d : ℕ) → (0 < gap) ⊎ ((0 < a) × (0 < b) × (0 < c) × (0 < d)) → (0 < gap) ⊎ ((0 < d) × (0 < c) × (0 < a) × (0 < b))
passes_turned gap a b c d (inl apart) = inl apart
passes_turned gap a b c d (inr full) = inr (full.3, full.2, full.0, full.1)

passes_over : (gap a b c d : ℕ) → (0 < gap) ⊎ ((0 < a) × (0 < b) × (0 < c) × (0 < d)) → (0 < gap) ⊎ ((0 < c) × (0 < d) × (0 < b) × (0 < a))
passes_over gap a b c d (inl apart) = inl apart
passes_over gap a b c d (inr full) = inr (full.2, full.3, full.1, full.0)

pub comes_above : (h k : Edit) (line : ℕ) → h.path ≡ k.path → IsInRange h → IsInRange k → IsTargetLine k.line (length k.new) (length k.old) h line → CommutesInRange (Hunk h) (Hunk k) (Hunk k) (Hunk (at_line line h))
comes_above h k line path r s c = record {
  change = hunk_above h k c.gap refl refl path c.stands (passes_over c.gap (length k.new) (length k.old) (length h.old) (length h.new) c.passes) refl (ap (λ l. Hunk (at_line l h)) c.comes);
  ranges = (r, s, s, c.fits);
}

pub no_place : (h k : Edit) → h.path ≡ k.path → ((line : ℕ) → ¬ (IsTargetLine h.line (length h.old) (length h.new) k line)) → ((line : ℕ) → ¬ (IsTargetLine k.line (length k.new) (length k.old) h line)) → (any : Primitive × Primitive) → ¬ (CommutesInRange (Hunk h) (Hunk k) any.0 any.1)
no_place h k path below above any c =
    elim c.change [
      | inl s ↦ s.paths path
      | inr some ↦ elim some [
        | inl s ↦
            let hs : s.h ≡ h = same_hunk s.h h (sym s.is_p) in
            let ks : s.k ≡ k = same_hunk s.k k (sym s.is_q) in
            let there : IsTargetLine s.h.line (length s.h.old) (length s.h.new) s.k (s.h.line + length s.h.old + s.gap) =
            record { gap = s.gap; stands = s.stands; passes = s.passes; comes = refl; fits = subst InRange s.second c.ranges.2 } in
            let at_k = subst (λ x. IsTargetLine s.h.line (length s.h.old) (length s.h.new) x (s.h.line + length s.h.old + s.gap)) ks there in
            below (h.line + length h.old + s.gap) (subst (λ x. IsTargetLine x.line (length x.old) (length x.new) k (x.line + length x.old + s.gap)) hs at_k)
        | inr s ↦
            let hs : s.h ≡ h = same_hunk s.h h (sym s.is_p) in
            let ks : s.k ≡ k = same_hunk s.k k (sym s.is_q) in
            let there : IsTargetLine s.k.line (length s.k.new) (length s.k.old) s.h (s.k.line + length s.k.new + s.gap) =
            record { gap = s.gap; stands = s.stands; passes = passes_turned s.gap (length s.h.old) (length s.h.new) (length s.k.old) (length s.k.new) s.passes; comes = refl; fits = subst InRange s.first c.ranges.3 } in
            let at_h = subst (λ x. IsTargetLine s.k.line (length s.k.new) (length s.k.old) x (s.k.line + length s.k.new + s.gap)) hs there in
            above (k.line + length k.new + s.gap) (subst (λ x. IsTargetLine x.line (length x.new) (length x.old) h (x.line + length x.new + s.gap)) ks at_h)
      ]
    ]

pub finds_along : (p q : Primitive) (h k : Edit) (found : Option Targets) → p ≡ Hunk h → q ≡ Hunk k → FindsPair (CommutesInRange (Hunk h) (Hunk k)) (option_map (commuted_to_targets (Hunk h) (Hunk k)) found) → FindsPair (CommutesInRange p q) (option_map (commuted_to_targets p q) found)
finds_along p q h k found e f finds =
    subst (λ x. FindsPair (CommutesInRange p x) (option_map (commuted_to_targets p x) found)) (sym f) (subst (λ x. FindsPair (CommutesInRange x (Hunk k)) (option_map (commuted_to_targets x (Hunk k)) found)) (sym e) finds)

pub swap_from : (p q q' p' : Named) (targets : Targets) → ¬ (SameKey p q) → CommutesInRange p.prim q.prim (moved targets.second q.prim) (moved targets.first p.prim) → q' ≡ record q { prim = moved targets.second q.prim } → p' ≡ record p { prim = moved targets.first p.prim } → Commute p q q' p'
swap_from p q q' p' targets apart c e f =
    subst (λ x. Commute p q q' x) (sym f) (subst (λ x. Commute p q x (record p { prim = moved targets.first p.prim })) (sym e) (record {
      anywhere = record { apart = apart; change = c.change; second = refl; first = refl };
      ranges = c.ranges;
    }))

-- if primitives commute, the function gives the result
pub swap_made : (p q : Named) (targets : Targets) → ¬ (SameKey p q) → CommutesInRange p.prim q.prim (moved targets.second q.prim) (moved targets.first p.prim) → (q' : Named) × ((p' : Named) × Commute p q q' p')
swap_made p q targets apart c =
    (record q { prim = moved targets.second q.prim }, (record p { prim = moved targets.first p.prim }, swap_from p q _ _ targets apart c refl refl))

-- if primitives do not commute, the function gives none
pub no_swap : (p q : Named) → ((any : Primitive × Primitive) → ¬ (CommutesInRange p.prim q.prim any.0 any.1)) → (any : Named × Named) → ¬ (Commute p q any.0 any.1)
no_swap p q never any s = never (any.0.prim, any.1.prim) (record { change = s.anywhere.change; ranges = s.ranges })

-- what follows if a test is false
pub told_not : {P : Type 0} (b : Bool) → b ≡ false → IsTrue b ↔ P → ¬ P
told_not true is_false told = λ holds. cc
told_not false is_false told = λ holds. let e : false ≡ true = told.1 holds in cc
