-- Two primitives commute or do not.
use Rattle.camp_prim.proofs.Words.{◌≡◌, ℕ, ◌+◌, ◌-◌, ◌≤◌, ◌^◌, ◌<◌, ◌⊎◌, length, Ordering, refl, sym, ap, ◌∙◌, subst, inl, inr, arith, cases_lt, nat_list_cmp_total, IsTotalOrder, tied_itself, IsAntisymmetric, slice_cmp-IsAntisymmetric, nat_cmp-IsAntisymmetric, Less, Equal, Greater, InRange, Edit, IsInRange, label_of, key_of, SameKey, path_of, at_line, CommutesInRange, IsTargetLine, Commute, Primitive, Add, Remove, Hunk, Named}
use Rattle.camp_prim.proofs.LabelOrder.{key_total, key_ties}
use Rattle.camp_prim.proofs.Moving.{comes_above, comes_below, no_place}

-- a fact holds or does not
abbrev pub Decided : Type 0 → Type 0
Decided A = A ⊎ (¬ A)

pub decided_by : {A B : Type 0} → (A → B) → (B → A) → Decided A → Decided B
decided_by f g (inl a) = inl (f a)
decided_by f g (inr n) = inr (λ b. n (g b))

both_or_not : {A B : Type 0} → Decided A → Decided B → Decided (A × B)
both_or_not (inl a) (inl b) = inl (a, b)
both_or_not (inl a) (inr n) = inr (λ c. n c.1)
both_or_not (inr n) d = inr (λ c. n c.0)

either_or_not : {A B : Type 0} → Decided A → Decided B → Decided (A ⊎ B)
either_or_not (inl a) d = inl (inl a)
either_or_not (inr n) (inl b) = inl (inr b)
either_or_not (inr n) (inr m) = inr (λ c. elim c [ inl a ↦ n a | inr b ↦ m b ])

four_or_not : {A B C D : Type 0} → Decided A → Decided B → Decided C → Decided D → Decided (A × B × C × D)
four_or_not a b c d =
    decided_by (λ x. (x.0.0, x.0.1, x.1.0, x.1.1)) (λ x. ((x.0, x.1), (x.2, x.3))) (both_or_not (both_or_not a b) (both_or_not c d))

pub le_or_not : (m n : ℕ) → Decided (m ≤ n)
le_or_not m n = elim (cases_lt n m) [ inl lt ↦ inr (λ le. omega arith) | inr le ↦ inl le ]

tie_or_not : (r : Ordering) → Decided (r ≡ Equal)
tie_or_not Less = inr (λ e. cc)
tie_or_not Equal = inl refl
tie_or_not Greater = inr (λ e. cc)

-- if an order ties only equal values, equality is decidable
pub same_or_not : {K : Type 0} (R : K → K → Ordering) → IsTotalOrder R → IsAntisymmetric R → (a b : K) → Decided (a ≡ b)
same_or_not R total ties a b =
    decided_by (ties a b) (λ e. ap (R a) (sym e) ∙ tied_itself total a) (tie_or_not (R a b))

in_range_or_not : (hunk : Edit) → Decided (IsInRange hunk)
in_range_or_not hunk =
    decided_by (λ x. record { counted = x.0; changes = x.1.0; within = x.1.1 }) (λ r. (r.counted, (r.changes, r.within))) (both_or_not (le_or_not 1 hunk.line) (both_or_not (le_or_not 1 (length hunk.old + length hunk.new)) (le_or_not (hunk.line + length hunk.old + length hunk.new) (2 ^ 30))))

primitive_in_range_or_not : (p : Primitive) → Decided (InRange p)
primitive_in_range_or_not (Add path) = inl tt
primitive_in_range_or_not (Remove path) = inl tt
primitive_in_range_or_not (Hunk hunk) = in_range_or_not hunk

-- the line to which a hunk below another moves, or none
comes_or_not : (upper takes leaves : ℕ) (lower : Edit) → Decided ((line : ℕ) × IsTargetLine upper takes leaves lower line)
comes_or_not upper takes leaves lower = elim (cases_lt lower.line (upper + leaves)) [
  | inl lt ↦ inr (λ c. let stands : lower.line ≡ upper + leaves + c.1.gap = c.1.stands in absurd (omega arith))
  | inr le ↦
      let Passes = λ (gap : ℕ). (0 < gap) ⊎ ((0 < takes) × (0 < leaves) × (0 < length lower.old) × (0 < length lower.new)) in
      let gap = lower.line - (upper + leaves) in
      let passes : Decided (Passes gap) = either_or_not (le_or_not 1 gap) (four_or_not (le_or_not 1 takes) (le_or_not 1 leaves) (le_or_not 1 (length lower.old)) (le_or_not 1 (length lower.new))) in
      decided_by (λ x. (upper + takes + gap, record { gap = gap; stands = omega arith; passes = x.0; comes = refl; fits = x.1 })) (λ c.
      let stands : lower.line ≡ upper + leaves + c.1.gap = c.1.stands in
      let same : c.1.gap ≡ gap = omega arith in
      (subst Passes same c.1.passes, subst (λ n. IsInRange (at_line n lower)) (c.1.comes ∙ ap (λ n. upper + takes + n) same) c.1.fits)) (both_or_not passes (in_range_or_not (at_line (upper + takes + gap) lower)))
]

-- the two primitives after the commute, in range
abbrev Change : Primitive → Primitive → Type 0
Change p q = (q' : Primitive) × (p' : Primitive) × CommutesInRange p q q' p'

hunks_change_or_not : (h k : Edit) → h.path ≡ k.path → IsInRange h → IsInRange k → Decided (Change (Hunk h) (Hunk k))
hunks_change_or_not h k same r s = elim (comes_or_not h.line (length h.old) (length h.new) k) [
  | inl below ↦ inl (_, _, comes_below h k below.0 same r s below.1)
  | inr never ↦ elim (comes_or_not k.line (length k.new) (length k.old) h) [
    | inl above ↦ inl (_, _, comes_above h k above.0 same r s above.1)
    | inr neither ↦ inr (λ c. no_place h k same (λ line there. never (line, there)) (λ line there. neither (line, there)) (c.0, c.1) c.2)
  ]
]

-- primitives of one path that are not both hunks do not commute
no_change : (p q : Primitive) → path_of p ≡ path_of q → ((h k : Edit) → p ≡ Hunk h → ¬ (q ≡ Hunk k)) → ¬ (Change p q)
no_change p q same never c = elim c.2.change [
  | inl apart ↦ apart.paths same
  | inr near ↦ elim near [ inl below ↦ never below.h below.k below.is_p below.is_q | inr above ↦ never above.h above.k above.is_p above.is_q ]
]

change_on_one_path : (p q : Primitive) → path_of p ≡ path_of q → InRange p → InRange q → Decided (Change p q)
change_on_one_path (Add path) q same r s = inr (no_change (Add path) q same (λ h k e f. cc))
change_on_one_path (Remove path) q same r s = inr (no_change (Remove path) q same (λ h k e f. cc))
change_on_one_path (Hunk h) (Add path) same r s = inr (no_change (Hunk h) (Add path) same (λ g k e f. cc))
change_on_one_path (Hunk h) (Remove path) same r s = inr (no_change (Hunk h) (Remove path) same (λ g k e f. cc))
change_on_one_path (Hunk h) (Hunk k) same r s = hunks_change_or_not h k same r s

change_or_not : (p q : Primitive) → InRange p → InRange q → Decided (Change p q)
change_or_not p q r s =
    elim (same_or_not _ nat_list_cmp_total (slice_cmp-IsAntisymmetric nat_cmp-IsAntisymmetric) (path_of p) (path_of q)) [
      | inl same ↦ change_on_one_path p q same r s
      | inr paths ↦ inl (q, p, record { change = inl (record { paths = paths; second = refl; first = refl }); ranges = (r, s, s, r) })
    ]

swap_if : (p q : Named) → ¬ (SameKey p q) → Decided (Change p.prim q.prim) → Decided ((q' : Named) × (p' : Named) × Commute p q q' p')
swap_if p q apart d =
    decided_by (λ c. (record q { prim = c.0 }, record p { prim = c.1 }, record { anywhere = record { apart = apart; change = c.2.change; second = refl; first = refl }; ranges = c.2.ranges })) (λ w. (w.0.prim, w.1.prim, record { change = w.2.anywhere.change; ranges = w.2.ranges })) d

pub swap_or_not : (p q : Named) → Decided ((q' : Named) × (p' : Named) × Commute p q q' p')
swap_or_not p q = elim (same_or_not _ key_total key_ties (key_of (label_of p)) (key_of (label_of q))) [
  | inl same ↦ inr (λ w. w.2.anywhere.apart same)
  | inr apart ↦ elim (both_or_not (primitive_in_range_or_not p.prim) (primitive_in_range_or_not q.prim)) [
    | inl r ↦ swap_if p q apart (change_or_not p.prim q.prim r.0 r.1)
    | inr never ↦ inr (λ w. never (w.2.ranges.0, w.2.ranges.1))
  ]
]
