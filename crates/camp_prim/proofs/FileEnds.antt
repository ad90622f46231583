-- The number of lines of a file before and after primitives: two that commute change it as they did in the other
-- order.
use Rattle.camp_prim.proofs.Words.{◌≡◌, ◌≢◌, ℕ, ◌+◌, ◌-◌, ◌≤◌, ◌⊎◌, List, length, refl, sym, ap, ◌∙◌, subst, inl, inr, arith, slice_cmp-IsAntisymmetric, nat_cmp-IsAntisymmetric, nat_list_cmp_total, Edit, path_of, at_line, PrimitivesCommute, Primitive, Add, Remove, Hunk}
use Rattle.camp_prim.proofs.CommuteDecided.{Decided, same_or_not}

-- a hunk with these numbers of old and new lines fits a file that ends here, and moves its end there
abbrev pub Ends : ℕ → ℕ → ℕ → ℕ → ℕ → Type 0
Ends line olds news before behind = (line + olds ≤ before) × (behind + olds ≡ before + news)

turned_below : (p a b q c d gap before between behind : ℕ) → q ≡ p + b + gap → Ends p a b before between → Ends q c d between behind → (m : ℕ) × Ends (p + a + gap) c d before m × Ends p a b m behind
turned_below p a b q c d gap before between behind stands u v =
    (before + d - c, (omega (arith, u, v), omega (arith, u, v)), (omega (arith, u, v), omega (arith, u, v)))

turned_above : (p a b q c d gap before between behind : ℕ) → p ≡ q + c + gap → Ends p a b before between → Ends q c d between behind → (m : ℕ) × Ends q c d before m × Ends (q + d + gap) a b m behind
turned_above p a b q c d gap before between behind stands u v =
    (before + d - c, (omega (arith, u, v), omega (arith, u, v)), (omega (arith, u, v), omega (arith, u, v)))

-- the end of the file of a path before and after a hunk of any path
abbrev pub MovesEnd : List ℕ → ℕ → Edit → ℕ → Type 0
MovesEnd path before h behind =
    ((h.path ≡ path) × Ends h.line (length h.old) (length h.new) before behind) ⊎ ((h.path ≢ path) × (behind ≡ before))

-- the end of the file of a path before and after a primitive
abbrev pub Steps : List ℕ → ℕ → Primitive → ℕ → Type 0
Steps path before (Add at) behind = behind ≡ before
Steps path before (Remove at) behind = behind ≡ before
Steps path before (Hunk h) behind = (1 ≤ h.line) × (1 ≤ length h.old + length h.new) × MovesEnd path before h behind

abbrev pub StepBoth : List ℕ → ℕ → Primitive → Primitive → ℕ → Type 0
StepBoth path before p q behind = (between : ℕ) × Steps path before p between × Steps path between q behind

-- a primitive that changes another file does not move the end of this one
idles : (path : List ℕ) (before behind : ℕ) (p : Primitive) → path_of p ≢ path → Steps path before p behind → (behind ≡ before) × ((b : ℕ) → Steps path b p b)
idles path before behind (Add at) off s = (s, λ b. refl)
idles path before behind (Remove at) off s = (s, λ b. refl)
idles path before behind (Hunk h) off (line, sides, inl on) = absurd (off on.0)
idles path before behind (Hunk h) off (line, sides, inr other) = (other.1, λ b. (line, sides, inr (off, refl)))

pub same_path_or_not : (a b : List ℕ) → Decided (a ≡ b)
same_path_or_not a b = same_or_not _ nat_list_cmp_total (slice_cmp-IsAntisymmetric nat_cmp-IsAntisymmetric) a b

on_two_paths : (path : List ℕ) (before behind : ℕ) (p q : Primitive) → path_of p ≢ path_of q → StepBoth path before p q behind → StepBoth path before q p behind
on_two_paths path before behind p q apart s = elim (same_path_or_not (path_of p) path) [
  | inl on ↦
      let i = idles path s.0 behind q (λ e. apart (on ∙ sym e)) s.2 in
      (before, i.1 before, subst (Steps path before p) (sym i.0) s.1)
  | inr off ↦
      let i = idles path before s.0 p off s.1 in
      (behind, subst (λ x. Steps path x q behind) i.0 s.2, i.1 behind)
]

below_steps : (path : List ℕ) (before behind : ℕ) (h k : Edit) (gap : ℕ) → h.path ≡ k.path → k.line ≡ h.line + length h.new + gap → StepBoth path before (Hunk h) (Hunk k) behind → StepBoth path before (Hunk (at_line (h.line + length h.old + gap) k)) (Hunk h) behind
below_steps path before behind h k gap same stands (m, (line, sides, inl u), (line', sides', inl v)) =
    let t = turned_below h.line (length h.old) (length h.new) k.line (length k.old) (length k.new) gap before m behind stands u.1 v.1 in
    (t.0, (omega arith, sides', inl (v.0, t.1)), (line, sides, inl (u.0, t.2)))
below_steps path before behind h k gap same stands (m, (line, sides, inl u), (line', sides', inr v)) =
    absurd (v.0 (sym same ∙ u.0))
below_steps path before behind h k gap same stands (m, (line, sides, inr u), (line', sides', inl v)) =
    absurd (u.0 (same ∙ v.0))
below_steps path before behind h k gap same stands (m, (line, sides, inr u), (line', sides', inr v)) =
    (before, (omega arith, sides', inr (v.0, refl)), (line, sides, inr (u.0, v.1 ∙ u.1)))

above_steps : (path : List ℕ) (before behind : ℕ) (h k : Edit) (gap : ℕ) → h.path ≡ k.path → h.line ≡ k.line + length k.old + gap → StepBoth path before (Hunk h) (Hunk k) behind → StepBoth path before (Hunk k) (Hunk (at_line (k.line + length k.new + gap) h)) behind
above_steps path before behind h k gap same stands (m, (line, sides, inl u), (line', sides', inl v)) =
    let t = turned_above h.line (length h.old) (length h.new) k.line (length k.old) (length k.new) gap before m behind stands u.1 v.1 in
    (t.0, (line', sides', inl (v.0, t.1)), (omega arith, sides, inl (u.0, t.2)))
above_steps path before behind h k gap same stands (m, (line, sides, inl u), (line', sides', inr v)) =
    absurd (v.0 (sym same ∙ u.0))
above_steps path before behind h k gap same stands (m, (line, sides, inr u), (line', sides', inl v)) =
    absurd (u.0 (same ∙ v.0))
above_steps path before behind h k gap same stands (m, (line, sides, inr u), (line', sides', inr v)) =
    (before, (line', sides', inr (v.0, refl)), (omega arith, sides, inr (u.0, v.1 ∙ u.1)))

steps_along : (path : List ℕ) (before behind : ℕ) (p q r s : Primitive) → p ≡ r → q ≡ s → StepBoth path before p q behind → StepBoth path before r s behind
steps_along path before behind p q r s e f both =
    subst (λ x. StepBoth path before r x behind) f (subst (λ x. StepBoth path before x q behind) e both)

pub both_turned : (path : List ℕ) (before behind : ℕ) (p q q' p' : Primitive) → PrimitivesCommute p q q' p' → StepBoth path before p q behind → StepBoth path before q' p' behind
both_turned path before behind p q q' p' (inl w) s =
    steps_along path before behind q p q' p' (sym w.second) (sym w.first) (on_two_paths path before behind p q w.paths s)
both_turned path before behind p q q' p' (inr (inl w)) s =
    steps_along path before behind _ _ q' p' (sym w.second) (sym (w.first ∙ w.is_p)) (below_steps path before behind w.h w.k w.gap w.path w.stands (steps_along path before behind p q _ _ w.is_p w.is_q s))
both_turned path before behind p q q' p' (inr (inr w)) s =
    steps_along path before behind _ _ q' p' (sym (w.second ∙ w.is_q)) (sym w.first) (above_steps path before behind w.h w.k w.gap w.path w.stands (steps_along path before behind p q _ _ w.is_p w.is_q s))

-- how many old and how many new lines a primitive has
abbrev pub olds_of : Primitive → ℕ
olds_of (Add path) = 0
olds_of (Remove path) = 0
olds_of (Hunk hunk) = length hunk.old

abbrev pub news_of : Primitive → ℕ
news_of (Add path) = 0
news_of (Remove path) = 0
news_of (Hunk hunk) = length hunk.new

pub news_kept : (p q q' p' : Primitive) → PrimitivesCommute p q q' p' → (news_of q' ≡ news_of q) × (news_of p' ≡ news_of p)
news_kept p q q' p' (inl w) = (ap news_of w.second, ap news_of w.first)
news_kept p q q' p' (inr (inl w)) = (ap news_of w.second ∙ sym (ap news_of w.is_q), ap news_of w.first)
news_kept p q q' p' (inr (inr w)) = (ap news_of w.second, ap news_of w.first ∙ sym (ap news_of w.is_p))
