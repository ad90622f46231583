-- If two primitives commute and a third commutes past both, it commutes past them in their other order too.
use Rattle.camp_prim.proofs.Words.{◌≡◌, ◌≢◌, ℕ, ◌⊎◌, ◌+◌, length, refl, sym, ap, ◌∙◌, subst, inl, inr, Edit, path_of, at_line, CommutesOnTwoPaths, CommutesBelow, CommutesAbove, PrimitivesCommute, Primitive, Hunk}
use Rattle.camp_prim.proofs.CommuteUnique.{same_hunk, one_path, hunk_below, hunk_above}
use Rattle.camp_prim.proofs.ThreeHunks.{Moves, MovesInOrder, three_move}

-- two hunks of one file commute
abbrev pub Near : Primitive → Primitive → Primitive → Primitive → Type 0
Near p q q' p' = CommutesBelow p q q' p' ⊎ CommutesAbove p q q' p'

-- the lines to which two hunks move
record HunksMove (h k : Edit) (q' p' : Primitive) : Type 0 where
  second_line : ℕ
  first_line : ℕ
  moves : Moves (length h.old) (length h.new) (length k.old) (length k.new) h.line k.line second_line first_line
  second : q' ≡ Hunk (at_line second_line k)
  first : p' ≡ Hunk (at_line first_line h)

below_moves : (p q q' p' : Primitive) (s : CommutesBelow p q q' p') → HunksMove s.h s.k q' p'
below_moves p q q' p' s = record {
  second_line = s.h.line + length s.h.old + s.gap;
  first_line = s.h.line;
  moves = inl (record { gap = s.gap; stands = s.stands; passes = s.passes; second = refl; first = refl });
  second = s.second;
  first = s.first ∙ s.is_p;
}

above_moves : (p q q' p' : Primitive) (s : CommutesAbove p q q' p') → HunksMove s.h s.k q' p'
above_moves p q q' p' s = record {
  second_line = s.k.line;
  first_line = s.k.line + length s.k.new + s.gap;
  moves = inr (record { gap = s.gap; stands = s.stands; passes = s.passes; second = refl; first = refl });
  second = s.second ∙ s.is_q;
  first = s.first;
}

move_of : (h k g l : Edit) (q' p' : Primitive) → g ≡ h → l ≡ k → HunksMove g l q' p' → HunksMove h k q' p'
move_of h k g l q' p' e f m = subst (λ x. HunksMove x k q' p') e (subst (λ x. HunksMove g x q' p') f m)

hunks_move : (h k : Edit) (p q q' p' : Primitive) → p ≡ Hunk h → q ≡ Hunk k → Near p q q' p' → HunksMove h k q' p'
hunks_move h k p q q' p' is_p is_q (inl s) =
    move_of h k s.h s.k q' p' (same_hunk s.h h (sym s.is_p ∙ is_p)) (same_hunk s.k k (sym s.is_q ∙ is_q)) (below_moves p q q' p' s)
hunks_move h k p q q' p' is_p is_q (inr s) =
    move_of h k s.h s.k q' p' (same_hunk s.h h (sym s.is_p ∙ is_p)) (same_hunk s.k k (sym s.is_q ∙ is_q)) (above_moves p q q' p' s)

swaps_by_moves : (h k : Edit) (p q q' p' : Primitive) (q_line p_line : ℕ) → h.path ≡ k.path → p ≡ Hunk h → q ≡ Hunk k → q' ≡ Hunk (at_line q_line k) → p' ≡ Hunk (at_line p_line h) → Moves (length h.old) (length h.new) (length k.old) (length k.new) h.line k.line q_line p_line → PrimitivesCommute p q q' p'
swaps_by_moves h k p q q' p' q_line p_line path is_p is_q second first (inl m) =
    hunk_below h k m.gap is_p is_q path m.stands m.passes (second ∙ ap (λ l. Hunk (at_line l k)) m.second) (first ∙ ap (λ l. Hunk (at_line l h)) m.first ∙ sym is_p)
swaps_by_moves h k p q q' p' q_line p_line path is_p is_q second first (inr m) =
    hunk_above h k m.gap is_p is_q path m.stands m.passes (second ∙ ap (λ l. Hunk (at_line l k)) m.second ∙ sym is_q) (first ∙ ap (λ l. Hunk (at_line l h)) m.first)

-- the hunks of two that commute
record Hunks (p q : Primitive) : Type 0 where
  h : Edit
  k : Edit
  is_p : p ≡ Hunk h
  is_q : q ≡ Hunk k
  path : h.path ≡ k.path

hunks_of : (p q q' p' : Primitive) → Near p q q' p' → Hunks p q
hunks_of p q q' p' (inl s) = record { h = s.h; k = s.k; is_p = s.is_p; is_q = s.is_q; path = s.path }
hunks_of p q q' p' (inr s) = record { h = s.h; k = s.k; is_p = s.is_p; is_q = s.is_q; path = s.path }

same_path : (p q q' p' : Primitive) → Near p q q' p' → path_of p ≡ path_of q
same_path p q q' p' s = let a = hunks_of p q q' p' s in one_path p q a.h a.k a.is_p a.is_q a.path

-- a primitive changes the same path before and after a commute
second_path : (p q q' p' : Primitive) → Near p q q' p' → path_of q' ≡ path_of q
second_path p q q' p' s =
    let a = hunks_of p q q' p' s in
    let m = hunks_move a.h a.k p q q' p' a.is_p a.is_q s in
    ap path_of m.second ∙ sym (ap path_of a.is_q)

first_path : (p q q' p' : Primitive) → Near p q q' p' → path_of p' ≡ path_of p
first_path p q q' p' s =
    let a = hunks_of p q q' p' s in
    let m = hunks_move a.h a.k p q q' p' a.is_p a.is_q s in
    ap path_of m.first ∙ sym (ap path_of a.is_p)

-- the third, r, commutes past p' and then q' and becomes y; p1 and q1 are what q' and p' become after y
pub record PassesInOrder (p' q' r p1 q1 y : Primitive) : Type 0 where
  pub r2 : Primitive
  pub p2 : Primitive
  pub q2 : Primitive
  pub past_first : PrimitivesCommute p' r r2 p2
  pub past_second : PrimitivesCommute q' r2 y q2
  pub others : PrimitivesCommute p1 q1 q2 p2

lines_in_order : (h k m : Edit) (q' p' r r1 q1 y p1 : Primitive) (first : HunksMove h k q' p') (then : HunksMove k m r1 q1) (last : HunksMove h (at_line then.second_line m) y p1) → MovesInOrder (length h.old) (length h.new) (length k.old) (length k.new) (length m.old) (length m.new) first.first_line first.second_line m.line last.first_line then.first_line last.second_line
lines_in_order h k m q' p' r r1 q1 y p1 first then last =
    three_move (length h.old) (length h.new) (length k.old) (length k.new) (length m.old) (length m.new) h.line k.line first.second_line first.first_line m.line then.second_line then.first_line last.second_line last.first_line first.moves then.moves last.moves

hunks_in_order : (h k m : Edit) (q' p' r r1 q1 y p1 : Primitive) → h.path ≡ k.path → k.path ≡ m.path → r ≡ Hunk m → (first : HunksMove h k q' p') (then : HunksMove k m r1 q1) (last : HunksMove h (at_line then.second_line m) y p1) → MovesInOrder (length h.old) (length h.new) (length k.old) (length k.new) (length m.old) (length m.new) first.first_line first.second_line m.line last.first_line then.first_line last.second_line → PassesInOrder p' q' r p1 q1 y
hunks_in_order h k m q' p' r r1 q1 y p1 path path' is_r first then last n = record {
  r2 = Hunk (at_line n.r2 m);
  p2 = Hunk (at_line n.p2 h);
  q2 = Hunk (at_line n.q2 k);
  past_first = swaps_by_moves (at_line first.first_line h) m p' r (Hunk (at_line n.r2 m)) (Hunk (at_line n.p2 h)) n.r2 n.p2 (path ∙ path') first.first is_r refl refl n.past_first;
  past_second = swaps_by_moves (at_line first.second_line k) (at_line n.r2 m) q' (Hunk (at_line n.r2 m)) y (Hunk (at_line n.q2 k)) last.second_line n.q2 path' first.second refl last.second refl n.past_second;
  others = swaps_by_moves (at_line last.first_line h) (at_line then.first_line k) p1 q1 (Hunk (at_line n.q2 k)) (Hunk (at_line n.p2 h)) n.q2 n.p2 path last.first then.first refl refl n.others;
}

-- for three hunks of one file
three_hunks : (p q q' p' r r1 q1 y p1 : Primitive) → Near p q q' p' → Near q r r1 q1 → Near p r1 y p1 → PassesInOrder p' q' r p1 q1 y
three_hunks p q q' p' r r1 q1 y p1 u v w =
    let a = hunks_of p q q' p' u in
    let b = hunks_of q r r1 q1 v in
    let path : a.k.path ≡ b.k.path = ap (λ x. x.path) (same_hunk a.k b.h (sym a.is_q ∙ b.is_p)) ∙ b.path in
    let first = hunks_move a.h a.k p q q' p' a.is_p a.is_q u in
    let then = hunks_move a.k b.k q r r1 q1 a.is_q b.is_q v in
    let last = hunks_move a.h (at_line then.second_line b.k) p r1 y p1 a.is_p then.second w in
    hunks_in_order a.h a.k b.k q' p' r r1 q1 y p1 a.path path b.is_q first then last (lines_in_order a.h a.k b.k q' p' r r1 q1 y p1 first then last)

swaps_along : (p q q' p' s t t' s' : Primitive) → p ≡ s → q ≡ t → q' ≡ t' → p' ≡ s' → PrimitivesCommute p q q' p' → PrimitivesCommute s t t' s'
swaps_along p q q' p' s t t' s' e f g h w =
    subst (λ x. PrimitivesCommute s t t' x) h (subst (λ x. PrimitivesCommute s t x p') g (subst (λ x. PrimitivesCommute s x q' p') f (subst (λ x. PrimitivesCommute x q q' p') e w)))

on_two_paths : (p q q' p' : Primitive) → path_of p ≢ path_of q → q' ≡ q → p' ≡ p → PrimitivesCommute p q q' p'
on_two_paths p q q' p' paths second first = inl (record { paths = paths; second = second; first = first })

-- for three paths
on_three_paths : (p q q' p' r r1 q1 y p1 : Primitive) → CommutesOnTwoPaths p q q' p' → CommutesOnTwoPaths q r r1 q1 → CommutesOnTwoPaths p r1 y p1 → PassesInOrder p' q' r p1 q1 y
on_three_paths p q q' p' r r1 q1 y p1 u v w = record {
  r2 = r;
  p2 = p;
  q2 = q;
  past_first = on_two_paths p' r r p (λ e. w.paths (sym (ap path_of u.first) ∙ e ∙ sym (ap path_of v.second))) refl (sym u.first);
  past_second = on_two_paths q' r y q (λ e. v.paths (sym (ap path_of u.second) ∙ e)) (w.second ∙ v.second) (sym u.second);
  others = on_two_paths p1 q1 q p (λ e. u.paths (sym (ap path_of w.first) ∙ e ∙ ap path_of v.first)) (sym v.first) (sym w.first);
}

-- for two paths: the third changes the path of the first
third_near_first : (p q q' p' r r1 q1 y p1 : Primitive) → CommutesOnTwoPaths p q q' p' → CommutesOnTwoPaths q r r1 q1 → Near p r1 y p1 → PassesInOrder p' q' r p1 q1 y
third_near_first p q q' p' r r1 q1 y p1 u v w = record {
  r2 = y;
  p2 = p1;
  q2 = q;
  past_first = swaps_along p r1 y p1 p' r y p1 (sym u.first) v.second refl refl (inr w);
  past_second = on_two_paths q' y y q (λ e. v.paths (sym (ap path_of u.second) ∙ e ∙ second_path p r1 y p1 w ∙ ap path_of v.second)) refl (sym u.second);
  others = on_two_paths p1 q1 q p1 (λ e. u.paths (sym (first_path p r1 y p1 w) ∙ e ∙ ap path_of v.first)) (sym v.first) refl;
}

-- the third changes the path of the second
third_near_second : (p q q' p' r r1 q1 y p1 : Primitive) → CommutesOnTwoPaths p q q' p' → Near q r r1 q1 → CommutesOnTwoPaths p r1 y p1 → PassesInOrder p' q' r p1 q1 y
third_near_second p q q' p' r r1 q1 y p1 u v w = record {
  r2 = r;
  p2 = p;
  q2 = q1;
  past_first = on_two_paths p' r r p (λ e. w.paths (sym (ap path_of u.first) ∙ e ∙ sym (second_path q r r1 q1 v))) refl (sym u.first);
  past_second = swaps_along q r r1 q1 q' r y q1 (sym u.second) refl (sym w.second) refl (inr v);
  others = on_two_paths p1 q1 q1 p (λ e. u.paths (sym (ap path_of w.first) ∙ e ∙ first_path q r r1 q1 v)) refl (sym w.first);
}

-- the first two change one path
two_near : (p q q' p' r r1 q1 y p1 : Primitive) → Near p q q' p' → CommutesOnTwoPaths q r r1 q1 → CommutesOnTwoPaths p r1 y p1 → PassesInOrder p' q' r p1 q1 y
two_near p q q' p' r r1 q1 y p1 u v w = record {
  r2 = r;
  p2 = p';
  q2 = q';
  past_first = on_two_paths p' r r p' (λ e. w.paths (sym (first_path p q q' p' u) ∙ e ∙ sym (ap path_of v.second))) refl refl;
  past_second = on_two_paths q' r y q' (λ e. v.paths (sym (second_path p q q' p' u) ∙ e)) (w.second ∙ v.second) refl;
  others = swaps_along p q q' p' p1 q1 q' p' (sym w.first) (sym v.first) refl refl (inr u);
}

-- if p and q commute, and r commutes past q and then p and becomes y, it commutes past them in their other order too
-- and becomes y, and what they become after it is one pair in its two orders
pub three_swap : (p q q' p' r r1 q1 y p1 : Primitive) → PrimitivesCommute p q q' p' → PrimitivesCommute q r r1 q1 → PrimitivesCommute p r1 y p1 → PassesInOrder p' q' r p1 q1 y
three_swap p q q' p' r r1 q1 y p1 (inl u) (inl v) (inl w) = on_three_paths p q q' p' r r1 q1 y p1 u v w
three_swap p q q' p' r r1 q1 y p1 (inl u) (inl v) (inr w) = third_near_first p q q' p' r r1 q1 y p1 u v w
three_swap p q q' p' r r1 q1 y p1 (inl u) (inr v) (inl w) = third_near_second p q q' p' r r1 q1 y p1 u v w
three_swap p q q' p' r r1 q1 y p1 (inl u) (inr v) (inr w) =
    absurd (u.paths (same_path p r1 y p1 w ∙ second_path q r r1 q1 v ∙ sym (same_path q r r1 q1 v)))
three_swap p q q' p' r r1 q1 y p1 (inr u) (inl v) (inl w) = two_near p q q' p' r r1 q1 y p1 u v w
three_swap p q q' p' r r1 q1 y p1 (inr u) (inl v) (inr w) =
    absurd (v.paths (sym (same_path p q q' p' u) ∙ same_path p r1 y p1 w ∙ ap path_of v.second))
three_swap p q q' p' r r1 q1 y p1 (inr u) (inr v) (inl w) =
    absurd (w.paths (same_path p q q' p' u ∙ same_path q r r1 q1 v ∙ sym (second_path q r r1 q1 v)))
three_swap p q q' p' r r1 q1 y p1 (inr u) (inr v) (inr w) = three_hunks p q q' p' r r1 q1 y p1 u v w
