-- Elements that are resolved one after another.
use Rattle.std.proofs.Common.{◌≡◌, ℕ, suc, ◌+◌, ◌<◌, ◌≤◌, List, [], ◌∷◌, ◌++◌, drop, drop-cons, get_or, length, map, Result, Ok, Err, refl, sym, ap, ◌∙◌, add-one, append_assoc, append-nil}
use Rattle.std.proofs.Math.ListN.{drop_of_length-le}
use Rattle.camp_base.specs.Results.{◌>>=◌}
use Rattle.camp_commits.specs.Resolving.{FailsBy, each_from}
use Rattle.camp_commits.specs.declared.faults.ApplyError.{ApplyError}
use Rattle.camp_commits.specs.declared.faults.ApplyError.TheVariants as apply
use Rattle.camp_commits.specs.declared.faults.CommandFault.{CommandFault}

-- results that come after others
abbrev pub after_others : {B E : Type 0} → List B → Result (List B) E → Result (List B) E
after_others front reading = reading >>= λ found. Ok (front ++ found)

regroup : {B E : Type 0} (front : List B) (value : B) (others : Result (List B) E)
    → after_others front (others >>= λ more. Ok (value ∷ more)) ≡ after_others (front ++ value ∷ []) others
regroup front value (Ok found) = ap Ok (sym (append_assoc front (value ∷ []) found))
regroup front value (Err fault) = refl

-- the element at an index, or another one past the end
abbrev pub element_at : {X : Type 0} → List X → ℕ → X → X
element_at xs index other = get_or xs index other

-- the elements from an index on, as values
next_of : {X A : Type 0} (view : X → A) (xs : List X) (index : ℕ) (x : X) → index < length xs
    → map view (drop index xs) ≡ view (get_or xs index x) ∷ map view (drop (index + 1) xs)
next_of {X} {A} view xs index x within =
    let front : drop index xs ≡ get_or xs index x ∷ drop (suc index) xs = drop-cons xs index x within in
    let rest : drop (suc index) xs ≡ drop (index + 1) xs = ap (λ (n : ℕ). drop n xs) (sym (add-one index)) in
    ap (map view) (front ∙ ap (λ (l : List X). get_or xs index x ∷ l) rest)

module _ {X A B : Type 0} (view : X → A) (step : ℕ → A → Result B CommandFault) (xs : List X) (index : ℕ) (front : List B) (total : Result (List B) CommandFault) (so_far : after_others front (each_from step index (map view (drop index xs))) ≡ total) where
  -- one more element is resolved
  pub one_more : (x : X) (y : B) → index < length xs → step index (view (get_or xs index x)) ≡ Ok y
      → after_others (front ++ y ∷ []) (each_from step (index + 1) (map view (drop (index + 1) xs))) ≡ total
  one_more x y within gives =
      let rest = map view (drop (index + 1) xs) in
      let next = ap (λ (l : List A). after_others front (each_from step index l)) (next_of view xs index x within) in
      let one : after_others front (each_from step index (view (get_or xs index x) ∷ rest)) ≡ after_others (front ++ y ∷ []) (each_from step (index + 1) rest) =
      rw gives (regroup front y (each_from step (index + 1) rest)) in
      sym one ∙ sym next ∙ so_far

  -- an element can't be resolved
  pub fails_there : (problem : ApplyError) (x : X) → index < length xs → FailsBy problem (step index (view (get_or xs index x))) → FailsBy problem total
  fails_there apply.Memory x within fails = tt
  fails_there (apply.Fault why) x within fails =
      let rest = map view (drop (index + 1) xs) in
      let next = ap (λ (l : List A). after_others front (each_from step index l)) (next_of view xs index x within) in
      let one : after_others front (each_from step index (view (get_or xs index x) ∷ rest)) ≡ Err why = rw fails refl in
      sym so_far ∙ next ∙ one

  -- all elements are resolved
  pub all_done : length xs ≤ index → total ≡ Ok front
  all_done past =
      let none : drop index xs ≡ [] = drop_of_length-le xs past in
      let one : after_others front (each_from step index (map view (drop index xs))) ≡ Ok front = rw none (ap Ok (append-nil front)) in
      sym so_far ∙ one
