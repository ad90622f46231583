-- A list whose reach is in range has headroom: in each order its hunks are in range, since the ends of files are
-- known.
use Rattle.camp_seq.proofs.Words.{◌≡◌, ℕ, ◌+◌, ◌-◌, ◌≤◌, ◌^◌, List, [], ◌∷◌, ◌++◌, length, get_or, refl, sym, ap, ◌∙◌, subst, inl, inr, arith, All, All-nil, All-cons, All-head, All-tail, InRange, path_of, PrimitivesCommute, Primitive, Named, Reaches, here, further, HasRoom, line_of, sides_of, greatest_line, all_sides, reach_of}
use Rattle.camp_prim.specs.declared.primitives.Primitive.TheVariants.{Add, Remove, Hunk}
use Rattle.camp_prim.proofs.FileEnds.{Steps, same_path_or_not, both_turned, olds_of, news_of, news_kept}

-- each primitive lies within the file of a path, whose number of lines before them is given
abbrev pub Fits : List ℕ → ℕ → List Named → Type 0
Fits path before [] = Unit {0}
Fits path before (p ∷ s) = (behind : ℕ) × Steps path before p.prim behind × Fits path behind s

fits_turned : (path : List ℕ) (before : ℕ) (s : List Named) (p q q' p' : Named) (t : List Named) → PrimitivesCommute p.prim q.prim q'.prim p'.prim → Fits path before (s ++ p ∷ q ∷ t) → Fits path before (s ++ q' ∷ p' ∷ t)
fits_turned path before [] p q q' p' t w f =
    let b = both_turned path before f.2.0 p.prim q.prim q'.prim p'.prim w (f.0, f.1, f.2.1) in
    (b.0, b.1, (f.2.0, b.2, f.2.2))
fits_turned path before (x ∷ s) p q q' p' t w f = (f.0, f.1, fits_turned path f.0 s p q q' p' t w f.2)

-- the numbers of old and new lines of a list
abbrev all_olds : List Named → ℕ
all_olds [] = 0
all_olds (p ∷ s) = olds_of p.prim + all_olds s

abbrev pub all_news : List Named → ℕ
all_news [] = 0
all_news (p ∷ s) = news_of p.prim + all_news s

sides_are : (p : Primitive) → sides_of p ≡ olds_of p + news_of p
sides_are (Add path) = refl
sides_are (Remove path) = refl
sides_are (Hunk hunk) = refl

all_sides_are : (s : List Named) → all_sides s ≡ all_olds s + all_news s
all_sides_are [] = refl
all_sides_are (p ∷ s) = omega (arith, sides_are p.prim, all_sides_are s)

news_turned : (s : List Named) (p q q' p' : Named) (t : List Named) → PrimitivesCommute p.prim q.prim q'.prim p'.prim → all_news (s ++ q' ∷ p' ∷ t) ≡ all_news (s ++ p ∷ q ∷ t)
news_turned [] p q q' p' t w =
    let kept = news_kept p.prim q.prim q'.prim p'.prim w in
    let e : news_of q'.prim ≡ news_of q.prim = kept.0 in
    let f : news_of p'.prim ≡ news_of p.prim = kept.1 in
    omega arith
news_turned (x ∷ s) p q q' p' t w = ap (λ n. news_of x.prim + n) (news_turned s p q q' p' t w)

-- a list that is reached from one that fits also fits, and has as many new lines
pub reached : (path : List ℕ) (before : ℕ) (s t : List Named) → Reaches s t → Fits path before s → Fits path before t × (all_news t ≡ all_news s)
reached path before s t here f = (f, refl)
reached path before s t (further {t = v} e r) f =
    let next : Fits path before v = subst (Fits path before) (sym e.becomes) (fits_turned path before e.before e.p e.q e.q' e.p' e.after e.turns.change (subst (Fits path before) e.was f)) in
    let news : all_news v ≡ all_news s = ap all_news e.becomes ∙ news_turned e.before e.p e.q e.q' e.p' e.after e.turns.change ∙ sym (ap all_news e.was) in
    let rest = reached path before v t r next in
    (rest.0, rest.1 ∙ news)

-- a primitive lies within a file of the given end, and removes no more than its old lines
stands : (path : List ℕ) (before : ℕ) (p : Primitive) → InRange p → line_of p + olds_of p ≤ before → (behind : ℕ) × Steps path before p behind × (before ≤ behind + olds_of p)
stands path before (Add at) r within = (before, refl, omega arith)
stands path before (Remove at) r within = (before, refl, omega arith)
stands path before (Hunk h) r within =
    let w : h.line + length h.old ≤ before = within in
    elim (same_path_or_not h.path path) [
      | inl on ↦
          (before + length h.new - length h.old, (r.counted, r.changes, inl (on, (w, omega arith))), omega arith)
      | inr off ↦ (before, (r.counted, r.changes, inr (off, refl)), omega arith)
    ]

-- a list fits if its greatest line and all its old lines do
every_fits : (path : List ℕ) (before top : ℕ) (s : List Named) → All (λ p. InRange p.prim) s → greatest_line s ≤ top → top + all_olds s ≤ before → Fits path before s
every_fits path before top [] a g w = tt
every_fits path before top (p ∷ s) a g w =
    let c = stands path before p.prim (All-head (λ p. InRange p.prim) p s a) (omega arith) in
    let left : before ≤ c.0 + olds_of p.prim = c.2 in
    (c.0, c.1, every_fits path c.0 top s (All-tail (λ p. InRange p.prim) p s a) (omega arith) (omega arith))

-- a primitive within a file is in range if the end of the file and its new lines are
pub in_range_there : (path : List ℕ) (before behind : ℕ) (p : Primitive) → Steps path before p behind → before + news_of p ≤ 2 ^ 30 → (path_of p ≡ path → InRange p) × (behind ≤ before + news_of p)
in_range_there path before behind (Add at) s le = (λ e. tt, omega (arith, s))
in_range_there path before behind (Remove at) s le = (λ e. tt, omega (arith, s))
in_range_there path before behind (Hunk h) (line, sides, inr off) le = (λ e. absurd (off.0 e), omega (arith, off.1))
in_range_there path before behind (Hunk h) (line, sides, inl on) le =
    let w : h.line + length h.old ≤ before = on.1.0 in
    let c : behind + length h.old ≡ before + length h.new = on.1.1 in
    (λ e. record { counted = line; changes = sides; within = omega arith }, omega arith)

in_range_at : (path : List ℕ) (before : ℕ) (s : List Named) → Fits path before s → before + all_news s ≤ 2 ^ 30 → All (λ p. path_of p.prim ≡ path → InRange p.prim) s
in_range_at path before [] f le = All-nil (λ p. path_of p.prim ≡ path → InRange p.prim)
in_range_at path before (p ∷ s) f le =
    let r = in_range_there path before f.0 p.prim f.1 (omega arith) in
    let left : f.0 ≤ before + news_of p.prim = r.1 in
    All-cons (λ p. path_of p.prim ≡ path → InRange p.prim) p s r.0 (in_range_at path f.0 s f.2 (omega arith))

in_range_everywhere : (s : List Named) → ((path : List ℕ) → All (λ p. path_of p.prim ≡ path → InRange p.prim) s) → All (λ p. InRange p.prim) s
in_range_everywhere s a k d within = a (path_of (get_or s k d).prim) k d within refl

-- in the file of each path, a list fits, with all its new lines
abbrev pub FitsEverywhere : List Named → Type 0
FitsEverywhere s = (path : List ℕ) → (before : ℕ) × Fits path before s × (before + all_news s ≤ 2 ^ 30)

pub fits_within : (s : List Named) → All (λ p. InRange p.prim) s → reach_of s ≤ 2 ^ 30 → FitsEverywhere s
fits_within s a le path =
    let sides : all_sides s ≡ all_olds s + all_news s = all_sides_are s in
    (greatest_line s + all_olds s, every_fits path (greatest_line s + all_olds s) (greatest_line s) s a (omega arith) (omega arith), omega arith)

pub room_where_it_fits : (s : List Named) → FitsEverywhere s → HasRoom s
room_where_it_fits s fits t r = in_range_everywhere t (λ path.
    let f = fits path in
    let within : f.0 + all_news s ≤ 2 ^ 30 = f.2 in
    let there = reached path f.0 s t r f.1 in
    let news : all_news t ≡ all_news s = there.1 in
    in_range_at path f.0 t there.0 (omega arith))

-- a list of primitives in range has headroom if its reach is within the limit of a hunk
pub room_within : (s : List Named) → All (λ p. InRange p.prim) s → reach_of s ≤ 2 ^ 30 → HasRoom s
room_within s a le = room_where_it_fits s (fits_within s a le)
