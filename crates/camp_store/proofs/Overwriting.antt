-- What a write does to a list of bytes.
use Rattle.camp_store.proofs.Words.{◌≡◌, ℕ, ◌+◌, ◌<◌, ◌≤◌, List, ◌++◌, length, take, drop, sym, ◌∙◌, ap, arith, length-append, length-drop, take-append-drop, ext_get_or, get_or-take, get_or-drop, length-take-le, drop-drop, take_at, drop_at, Holds, Torn}

module _ (at n : ℕ) (old new : List ℕ) (torn : Torn at n old new) (within : at ≤ length old) where
  pub before : take at new ≡ take at old
  before = ext_get_or 0 (take at new) (take at old) (long ∙ sym (length-take-le at old within)) (λ i lt.
      let low : i < at = omega (arith, lt, long) in
      get_or-take at new i 0 low ∙ torn.below i (omega (arith, low, within)) low ∙ sym (get_or-take at old i 0 low))
    where
      long : length (take at new) ≡ at
      long = length-take-le at new (omega (arith, within, torn.no_shorter))

  pub after : drop (at + n) new ≡ drop (at + n) old
  after = ext_get_or 0 (drop (at + n) new) (drop (at + n) old) (omega (arith, length-drop (at + n) new, length-drop (at + n) old, torn.no_shorter, torn.no_longer)) (λ i lt.
      let in_old : at + n + i < length old = omega (arith, lt, length-drop (at + n) new, torn.no_shorter, torn.no_longer) in
      get_or-drop (at + n) new i 0 ∙ torn.above (at + n + i) in_old (omega arith) ∙ sym (get_or-drop (at + n) old i 0))

  -- the file after a write that was done
  pub written : (bytes : List ℕ) → length bytes ≡ n → Holds new at bytes → new ≡ take at old ++ (bytes ++ drop (at + n) old)
  written bytes len holds =
      sym (take-append-drop at new)
      ∙ ap (λ (l : List ℕ). l ++ drop at new) before
      ∙ ap (λ (l : List ℕ). take at old ++ l) (sym (take-append-drop n (drop at new)) ∙ (λ i. middle i ++ rest i))
    where
      fits : length (take n (drop at new)) ≡ n
      fits = length-take-le n (drop at new) (omega (arith, len, holds.within, length-drop at new))

      middle : take n (drop at new) ≡ bytes
      middle = ext_get_or 0 (take n (drop at new)) bytes (fits ∙ sym len) (λ i lt.
          let low : i < n = omega (arith, lt, fits) in
          get_or-take n (drop at new) i 0 low ∙ get_or-drop at new i 0 ∙ holds.each i (omega (arith, low, len)))

      rest : drop n (drop at new) ≡ drop (at + n) old
      rest = drop-drop n at new ∙ after

-- a write after a prefix that stays
module _ (front end new : List ℕ) (at n : ℕ) (at_is : at ≡ length front) (torn : Torn at n (front ++ end) new) where
  within : at ≤ length (front ++ end)
  within = omega (arith, at_is, length-append front end)

  taken : take at (front ++ end) ≡ front
  taken = take_at front end at (sym at_is)

  dropped : drop at (front ++ end) ≡ end
  dropped = drop_at front end at (sym at_is)

  pub front_stays : new ≡ front ++ drop at new
  front_stays = sym (take-append-drop at new) ∙ ap (λ (l : List ℕ). l ++ drop at new) (before at n (front ++ end) new torn within ∙ taken)

  pub rest_stays : drop n (drop at new) ≡ drop n end
  rest_stays = drop-drop n at new ∙ after at n (front ++ end) new torn within ∙ sym (drop-drop n at (front ++ end)) ∙ ap (λ (l : List ℕ). drop n l) dropped

  pub written_after : (bytes : List ℕ) → length bytes ≡ n → Holds new at bytes → new ≡ front ++ (bytes ++ drop n end)
  written_after bytes len holds =
      written at n (front ++ end) new torn within bytes len holds
      ∙ ap (λ (l : List ℕ). l ++ (bytes ++ drop (at + n) (front ++ end))) taken
      ∙ ap (λ (l : List ℕ). front ++ (bytes ++ l)) (sym (drop-drop n at (front ++ end)) ∙ ap (λ (l : List ℕ). drop n l) dropped)
