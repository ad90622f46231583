-- Three hunks of one file as numbers: their lines, and how many lines each removes and adds.
use Rattle.camp_prim.proofs.Words.{◌≡◌, ℕ, ◌+◌, ◌<◌, ◌⊎◌, refl, inl, inr, arith}

-- hunks of these sizes can commute with this gap
abbrev pub Pass : ℕ → ℕ → ℕ → ℕ → ℕ → Type 0
Pass gap a b c d = (0 < gap) ⊎ ((0 < a) × (0 < b) × (0 < c) × (0 < d))

-- the second hunk is a gap below the first
pub record MovesBelow (a b c d p q q' p' : ℕ) : Type 0 where
  pub gap : ℕ
  pub stands : q ≡ p + b + gap
  pub passes : Pass gap a b c d
  pub second : q' ≡ p + a + gap
  pub first : p' ≡ p

-- the first hunk is a gap below the second
pub record MovesAbove (a b c d p q q' p' : ℕ) : Type 0 where
  pub gap : ℕ
  pub stands : p ≡ q + c + gap
  pub passes : Pass gap a b c d
  pub second : q' ≡ q
  pub first : p' ≡ q + d + gap

-- hunks at p and q with the sizes a, b and c, d move to q' and p' when they commute
abbrev pub Moves : ℕ → ℕ → ℕ → ℕ → ℕ → ℕ → ℕ → ℕ → Type 0
Moves a b c d p q q' p' = MovesBelow a b c d p q q' p' ⊎ MovesAbove a b c d p q q' p'

-- the third commutes past the two in their other order, and they commute after it
pub record MovesInOrder (a b c d e f p' q' r p1 q1 y : ℕ) : Type 0 where
  pub r2 : ℕ
  pub p2 : ℕ
  pub q2 : ℕ
  pub past_first : Moves a b e f p' r r2 p2
  pub past_second : Moves c d e f q' r2 y q2
  pub others : Moves a b c d p1 q1 q2 p2

module _ (a b c d e f p q q' p' r r1 q1 y p1 : ℕ) where
  -- the six arrangements in the file, each named from top to bottom
  first_second_third : MovesBelow a b c d p q q' p' → MovesBelow c d e f q r r1 q1 → MovesBelow a b e f p r1 y p1 → MovesInOrder a b c d e f p' q' r p1 q1 y
  first_second_third u v w =
      let apart : 0 < u.gap + d + v.gap = elim u.passes [ inl some ↦ omega arith | inr full ↦ let side : 0 < d = full.3 in omega arith ] in
      record {
        r2 = p + a + (u.gap + d + v.gap);
        p2 = p;
        q2 = q';
        past_first = inl (record { gap = u.gap + d + v.gap; stands = omega arith; passes = inl apart; second = omega arith; first = omega arith });
        past_second = inl (record { gap = v.gap; stands = omega arith; passes = v.passes; second = omega arith; first = refl });
        others = inl (record { gap = u.gap; stands = omega arith; passes = u.passes; second = omega arith; first = omega arith });
      }

  first_third_second : MovesBelow a b c d p q q' p' → MovesAbove c d e f q r r1 q1 → MovesBelow a b e f p r1 y p1 → MovesInOrder a b c d e f p' q' r p1 q1 y
  first_third_second u v w =
      let apart : 0 < w.gap + f + v.gap = elim w.passes [ inl some ↦ omega arith | inr full ↦ let side : 0 < f = full.3 in omega arith ] in
      record {
        r2 = p + a + w.gap;
        p2 = p;
        q2 = p + a + (w.gap + f + v.gap);
        past_first = inl (record { gap = w.gap; stands = omega arith; passes = w.passes; second = omega arith; first = omega arith });
        past_second = inr (record { gap = v.gap; stands = omega arith; passes = v.passes; second = omega arith; first = omega arith });
        others = inl (record { gap = w.gap + f + v.gap; stands = omega arith; passes = inl apart; second = omega arith; first = omega arith });
      }

  third_first_second : MovesBelow a b c d p q q' p' → MovesAbove c d e f q r r1 q1 → MovesAbove a b e f p r1 y p1 → MovesInOrder a b c d e f p' q' r p1 q1 y
  third_first_second u v w =
      let apart : 0 < w.gap + a + u.gap = elim w.passes [ inl some ↦ omega arith | inr full ↦ let side : 0 < a = full.0 in omega arith ] in
      record {
        r2 = r;
        p2 = p1;
        q2 = r + f + (w.gap + a + u.gap);
        past_first = inr (record { gap = w.gap; stands = omega arith; passes = w.passes; second = omega arith; first = omega arith });
        past_second = inr (record { gap = w.gap + a + u.gap; stands = omega arith; passes = inl apart; second = omega arith; first = omega arith });
        others = inl (record { gap = u.gap; stands = omega arith; passes = u.passes; second = omega arith; first = refl });
      }

  second_first_third : MovesAbove a b c d p q q' p' → MovesBelow c d e f q r r1 q1 → MovesBelow a b e f p r1 y p1 → MovesInOrder a b c d e f p' q' r p1 q1 y
  second_first_third u v w =
      let apart : 0 < u.gap + a + w.gap = elim u.passes [ inl some ↦ omega arith | inr full ↦ let side : 0 < a = full.0 in omega arith ] in
      record {
        r2 = p' + a + w.gap;
        p2 = p';
        q2 = q;
        past_first = inl (record { gap = w.gap; stands = omega arith; passes = w.passes; second = refl; first = refl });
        past_second = inl (record { gap = u.gap + a + w.gap; stands = omega arith; passes = inl apart; second = omega arith; first = omega arith });
        others = inr (record { gap = u.gap; stands = omega arith; passes = u.passes; second = omega arith; first = omega arith });
      }

  second_third_first : MovesAbove a b c d p q q' p' → MovesBelow c d e f q r r1 q1 → MovesAbove a b e f p r1 y p1 → MovesInOrder a b c d e f p' q' r p1 q1 y
  second_third_first u v w =
      let apart : 0 < v.gap + f + w.gap = elim v.passes [ inl some ↦ omega arith | inr full ↦ let side : 0 < f = full.3 in omega arith ] in
      record {
        r2 = r;
        p2 = r + f + w.gap;
        q2 = q;
        past_first = inr (record { gap = w.gap; stands = omega arith; passes = w.passes; second = refl; first = refl });
        past_second = inl (record { gap = v.gap; stands = omega arith; passes = v.passes; second = omega arith; first = omega arith });
        others = inr (record { gap = v.gap + f + w.gap; stands = omega arith; passes = inl apart; second = omega arith; first = omega arith });
      }

  third_second_first : MovesAbove a b c d p q q' p' → MovesAbove c d e f q r r1 q1 → MovesAbove a b e f p r1 y p1 → MovesInOrder a b c d e f p' q' r p1 q1 y
  third_second_first u v w =
      let apart : 0 < v.gap + d + u.gap = elim v.passes [ inl some ↦ omega arith | inr full ↦ let side : 0 < d = full.1 in omega arith ] in
      record {
        r2 = r;
        p2 = r + f + (v.gap + d + u.gap);
        q2 = q1;
        past_first = inr (record { gap = v.gap + d + u.gap; stands = omega arith; passes = inl apart; second = refl; first = refl });
        past_second = inr (record { gap = v.gap; stands = omega arith; passes = v.passes; second = omega arith; first = omega arith });
        others = inr (record { gap = u.gap; stands = omega arith; passes = u.passes; second = refl; first = omega arith });
      }

  -- the other two are impossible: the first above the second, the second above the third, and the third above the
  -- first
  never_round : MovesBelow a b c d p q q' p' → MovesBelow c d e f q r r1 q1 → MovesAbove a b e f p r1 y p1 → ⊥
  never_round u v w =
      elim w.passes [ inl some ↦ omega arith | inr full ↦ let side : 0 < b = full.1 in omega arith ]

  -- and the same in the other direction
  never_round_back : MovesAbove a b c d p q q' p' → MovesAbove c d e f q r r1 q1 → MovesBelow a b e f p r1 y p1 → ⊥
  never_round_back u v w =
      elim w.passes [ inl some ↦ omega arith | inr full ↦ let side : 0 < b = full.1 in omega arith ]

  -- if two hunks commute and a third commutes past the second and then the first, it commutes past them in their
  -- other order too, and moves to the same line
  pub three_move : Moves a b c d p q q' p' → Moves c d e f q r r1 q1 → Moves a b e f p r1 y p1 → MovesInOrder a b c d e f p' q' r p1 q1 y
  three_move (inl u) (inl v) (inl w) = first_second_third u v w
  three_move (inl u) (inl v) (inr w) = absurd (never_round u v w)
  three_move (inl u) (inr v) (inl w) = first_third_second u v w
  three_move (inl u) (inr v) (inr w) = third_first_second u v w
  three_move (inr u) (inl v) (inl w) = second_first_third u v w
  three_move (inr u) (inl v) (inr w) = second_third_first u v w
  three_move (inr u) (inr v) (inl w) = absurd (never_round_back u v w)
  three_move (inr u) (inr v) (inr w) = third_second_first u v w
