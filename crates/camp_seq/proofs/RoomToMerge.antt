-- Two lists whose greatest line and all whose old and new lines are within the limit of a hunk have headroom to
-- merge.
use Rattle.std.specs.Prelude.{◌<◌, MatchOption}
use Rattle.std.proofs.lemmas.List.Elements.{All-append}
use Rattle.camp_base.specs.Limits.{greatest_reach}
use Rattle.camp_seq.proofs.Words.{None, Option, Some, ◌≡◌, ℕ, ◌+◌, ◌≤◌, ◌^◌, max, List, [], ◌∷◌, ◌++◌, drop, length, length-drop, at_drop_all, refl, sym, ap, subst, arith, All, All-nil, All-cons, All-head, All-tail, InRange, inverse_of, Primitive, Named, inverse_all, line_of, sides_of, greatest_line, all_sides, reach_of}
use Rattle.camp_prim.specs.Effect.{inverted}
use Rattle.camp_prim.specs.declared.primitives.Primitive.TheVariants.{Add, Remove, Hunk}
use Rattle.camp_seq.specs.Inside.Reach.{ReachGrowsTo}
use Rattle.camp_seq.specs.Room.{HasRoomToMerge}
use Rattle.camp_seq.proofs.ListRuns.{inverse_all-cons}
use Rattle.camp_seq.proofs.Reaching.{room_within}

abbrev AllInRange : List Named → Type 0
AllInRange s = All (λ p. InRange p.prim) s

line-inverted : (p : Primitive) → line_of (inverted p) ≡ line_of p
line-inverted (Add path) = refl
line-inverted (Remove path) = refl
line-inverted (Hunk h) = refl

sides-inverted : (p : Primitive) → sides_of (inverted p) ≡ sides_of p
sides-inverted (Add path) = refl
sides-inverted (Remove path) = refl
sides-inverted (Hunk h) = omega arith

in_range-inverted : (p : Primitive) → InRange p → InRange (inverted p)
in_range-inverted (Add path) r = r
in_range-inverted (Remove path) r = r
in_range-inverted (Hunk h) r = record { counted = r.counted; changes = omega (arith, r.changes); within = omega (arith, r.within) }

line-append : (s t : List Named) → greatest_line (s ++ t) ≡ max (greatest_line s) (greatest_line t)
line-append [] t = omega arith
line-append (p ∷ s) t = omega (arith, line-append s t)

sides-append : (s t : List Named) → all_sides (s ++ t) ≡ all_sides s + all_sides t
sides-append [] t = omega arith
sides-append (p ∷ s) t = omega (arith, sides-append s t)

line-inverse_all : (s : List Named) → greatest_line (inverse_all s) ≡ greatest_line s
line-inverse_all [] = refl
line-inverse_all (p ∷ s) =
    omega (arith, ap greatest_line (inverse_all-cons p s), line-append (inverse_all s) (inverse_of p ∷ []), line-inverse_all s, line-inverted p.prim)

sides-inverse_all : (s : List Named) → all_sides (inverse_all s) ≡ all_sides s
sides-inverse_all [] = refl
sides-inverse_all (p ∷ s) =
    omega (arith, ap all_sides (inverse_all-cons p s), sides-append (inverse_all s) (inverse_of p ∷ []), sides-inverse_all s, sides-inverted p.prim)

in_range-inverse_all : (s : List Named) → AllInRange s → AllInRange (inverse_all s)
in_range-inverse_all [] a = All-nil (λ x. InRange x.prim)
in_range-inverse_all (p ∷ s) a =
    subst AllInRange (sym (inverse_all-cons p s)) (All-append (λ x. InRange x.prim) (inverse_all s) (inverse_of p ∷ []) (in_range-inverse_all s (All-tail (λ x. InRange x.prim) p s a)) (All-cons (λ x. InRange x.prim) (inverse_of p) [] (in_range-inverted p.prim (All-head (λ x. InRange x.prim) p s a)) (All-nil (λ x. InRange x.prim))))

one_way : (s t : List Named) → AllInRange s → AllInRange t → max (greatest_line s) (greatest_line t) + (all_sides s + all_sides t) ≤ 2 ^ 30 → reach_of (inverse_all s ++ t) ≤ 2 ^ 30
one_way s t a b le =
    omega (arith, line-append (inverse_all s) t, sides-append (inverse_all s) t, line-inverse_all s, sides-inverse_all s)

-- the bounds found by a pass over each list show that they have headroom to merge
pub room_to_merge : (s t : List Named) (g h m n : ℕ) → ReachGrowsTo s 0 0 g m → ReachGrowsTo t 0 0 h n → max g h + m + n ≤ 2 ^ 30 → HasRoomToMerge s t
room_to_merge s t g h m n a b le = record {
  forth = room_within (inverse_all s ++ t) (All-append (λ x. InRange x.prim) (inverse_all s) t (in_range-inverse_all s a.ranges) b.ranges) (one_way s t a.ranges b.ranges (omega (arith, a.top, a.all, b.top, b.all)));
  back = room_within (inverse_all t ++ s) (All-append (λ x. InRange x.prim) (inverse_all t) s (in_range-inverse_all t b.ranges) a.ranges) (one_way t s b.ranges a.ranges (omega (arith, a.top, a.all, b.top, b.all)));
}

-- one more element after a list, and the bounds with it
pub shape_with : (s : List Named) (p : Named) (line more g m : ℕ) → InRange p.prim → line ≡ line_of p.prim → more ≡ sides_of p.prim → ReachGrowsTo s line more g m → ReachGrowsTo (s ++ p ∷ []) 0 0 g m
shape_with s p line more g m r first then found = record {
  ranges = All-append (λ x. InRange x.prim) s (p ∷ []) found.ranges (All-cons (λ x. InRange x.prim) p [] r (All-nil (λ x. InRange x.prim)));
  top = omega (arith, found.top, first, line-append s (p ∷ []));
  all = omega (arith, found.all, then, sides-append s (p ∷ []));
  line_small = found.line_small;
  small = found.small;
}

pub shape_told : (s : List Named) (p : Named) (line more : ℕ) → InRange p.prim → line ≡ line_of p.prim → more ≡ sides_of p.prim → (found : Option (ℕ × ℕ)) → MatchOption found (greatest_reach < more + all_sides s) (λ x. ReachGrowsTo s line more x.0 x.1) → MatchOption found (greatest_reach < all_sides (s ++ p ∷ [])) (λ x. ReachGrowsTo (s ++ p ∷ []) 0 0 x.0 x.1)
shape_told s p line more r first then None w = omega (arith, w, then, sides-append s (p ∷ []))
shape_told s p line more r first then (Some x) w = shape_with s p line more x.0 x.1 r first then w

-- the bounds of both lists together are the reach of the joined list
pub both_reach : (s t : List Named) (g h m n : ℕ) → ReachGrowsTo s 0 0 g m → ReachGrowsTo t 0 0 h n → max g h + m + n ≡ reach_of (s ++ t)
both_reach s t g h m n a b = omega (arith, a.top, a.all, b.top, b.all, line-append s t, sides-append s t)

-- if one list alone exceeds the bound, the joined list does
pub first_too_far : (s t : List Named) → greatest_reach < all_sides s → ¬ (reach_of (s ++ t) ≤ greatest_reach)
first_too_far s t much le = absurd (omega (arith, much, le, sides-append s t))

pub second_too_far : (s t : List Named) → greatest_reach < all_sides t → ¬ (reach_of (s ++ t) ≤ greatest_reach)
second_too_far s t much le = absurd (omega (arith, much, le, sides-append s t))

-- the bounds after the whole list
pub goes_on_to : (s : List Named) (line more g m i : ℕ) → length s ≤ i → (AllInRange (drop i s) → AllInRange s) → max g (greatest_line (drop i s)) ≡ max line (greatest_line s) → m + all_sides (drop i s) ≡ more + all_sides s → g ≤ 2 ^ 30 → m ≤ 2 ^ 30 → ReachGrowsTo s line more g m
goes_on_to s line more g m i le ranges greatest all small few =
    let a : greatest_line (drop i s) ≡ 0 = at_drop_all greatest_line s i le in
    let b : all_sides (drop i s) ≡ 0 = at_drop_all all_sides s i le in
    record {
      ranges = ranges (λ k d within. absurd (omega (arith, length-drop i s)));
      top = omega (arith, greatest);
      all = omega (arith, all);
      line_small = small;
      small = few;
    }
