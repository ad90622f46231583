-- A list that fits its files still fits when it is reordered or loses elements.
use Rattle.camp_seq.proofs.Words.{◌≡◌, ℕ, ◌+◌, ◌≤◌, ◌^◌, List, [], ◌∷◌, ◌++◌, length, subst, inl, inr, arith, inverse_of, Commute, Primitive, Named, CommutesOnce, ◌~◌, here, further}
use Rattle.camp_prim.specs.Effect.{inverted}
use Rattle.camp_prim.specs.declared.primitives.Primitive.TheVariants.{Add, Remove, Hunk}
use Rattle.camp_prim.proofs.FileEnds.{Steps, news_of}
use Rattle.camp_seq.proofs.ExchangeSteps.{exchanged_anywhere, shared}
use Rattle.camp_seq.proofs.Reaching.{Fits, FitsEverywhere, all_news, in_range_there, reached}

fits_exchanged : (s t : List Named) → CommutesOnce Commute s t → FitsEverywhere s → FitsEverywhere t
fits_exchanged s t e fits path =
    let f = fits path in
    let within : f.0 + all_news s ≤ 2 ^ 30 = f.2 in
    let there = reached path f.0 s t (further (exchanged_anywhere s t e) here) f.1 in
    let news : all_news t ≡ all_news s = there.1 in
    (f.0, there.0, omega arith)

-- reordered
pub fits_alike : (s t : List Named) → s ~ t → FitsEverywhere s → FitsEverywhere t
fits_alike s t e = (shared FitsEverywhere fits_exchanged s t e).0

-- without its first element
pub fits_behind : (p : Named) (s : List Named) → FitsEverywhere (p ∷ s) → FitsEverywhere s
fits_behind p s fits path =
    let f = fits path in
    let within : f.0 + (news_of p.prim + all_news s) ≤ 2 ^ 30 = f.2 in
    let next = f.1 in
    let r = in_range_there path f.0 next.0 p.prim next.1 (omega arith) in
    let left : next.0 ≤ f.0 + news_of p.prim = r.1 in
    (next.0, next.2, omega arith)

-- without its first elements
pub fits_rest : (u s : List Named) → FitsEverywhere (u ++ s) → FitsEverywhere s
fits_rest [] s fits = fits
fits_rest (p ∷ u) s fits = fits_rest u s (fits_behind p (u ++ s) fits)

first_fits : (path : List ℕ) (before : ℕ) (s t : List Named) → Fits path before (s ++ t) → Fits path before s × (all_news s ≤ all_news (s ++ t))
first_fits path before [] t f = (tt, omega arith)
first_fits path before (p ∷ s) t f =
    let rest = first_fits path f.0 s t f.2 in
    let less : all_news s ≤ all_news (s ++ t) = rest.1 in
    ((f.0, f.1, rest.0), omega arith)

-- without its last elements
pub fits_before : (s t : List Named) → FitsEverywhere (s ++ t) → FitsEverywhere s
fits_before s t fits path =
    let f = fits path in
    let within : f.0 + all_news (s ++ t) ≤ 2 ^ 30 = f.2 in
    let first = first_fits path f.0 s t f.1 in
    let less : all_news s ≤ all_news (s ++ t) = first.1 in
    (f.0, first.0, omega arith)

-- a primitive followed by its inverse leaves the number of lines of a file as it was
back_again : (path : List ℕ) (before between behind : ℕ) (p : Primitive) → Steps path before p between → Steps path between (inverted p) behind → behind ≡ before
back_again path before between behind (Add at) s t = omega (arith, s, t)
back_again path before between behind (Remove at) s t = omega (arith, s, t)
back_again path before between behind (Hunk h) (line, sides, inl u) (line', sides', inl v) =
    let forth : between + length h.old ≡ before + length h.new = u.1.1 in
    let back : behind + length h.new ≡ between + length h.old = v.1.1 in
    omega arith
back_again path before between behind (Hunk h) (line, sides, inl u) (line', sides', inr v) = absurd (v.0 u.0)
back_again path before between behind (Hunk h) (line, sides, inr u) (line', sides', inl v) = absurd (u.0 v.0)
back_again path before between behind (Hunk h) (line, sides, inr u) (line', sides', inr v) = omega (arith, u.1, v.1)

less_fits : (path : List ℕ) (before : ℕ) (u : List Named) (p : Named) (s : List Named) → Fits path before (u ++ p ∷ inverse_of p ∷ s) → Fits path before (u ++ s) × (all_news (u ++ s) ≤ all_news (u ++ p ∷ inverse_of p ∷ s))
less_fits path before [] p s f =
    let t = f.2 in
    (subst (λ b. Fits path b s) (back_again path before f.0 t.0 p.prim f.1 t.1) t.2, omega arith)
less_fits path before (x ∷ u) p s f =
    let rest = less_fits path f.0 u p s f.2 in
    let less : all_news (u ++ s) ≤ all_news (u ++ p ∷ inverse_of p ∷ s) = rest.1 in
    ((f.0, f.1, rest.0), omega arith)

-- without two neighbours of which the second is the inverse of the first
pub fits_without : (u : List Named) (p : Named) (s : List Named) → FitsEverywhere (u ++ p ∷ inverse_of p ∷ s) → FitsEverywhere (u ++ s)
fits_without u p s fits path =
    let f = fits path in
    let within : f.0 + all_news (u ++ p ∷ inverse_of p ∷ s) ≤ 2 ^ 30 = f.2 in
    let left = less_fits path f.0 u p s f.1 in
    let less : all_news (u ++ s) ≤ all_news (u ++ p ∷ inverse_of p ∷ s) = left.1 in
    (f.0, left.0, omega arith)
