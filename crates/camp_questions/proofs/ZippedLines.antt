-- Two lists item by item, and the common lines of the two sides of a hunk.
use Rattle.camp_questions.proofs.Words.{◌≡◌, ◌≤◌, ℕ, zero, suc, ◌+◌, ◌-◌, List, [], ◌∷◌, ◌++◌, bytes_eq, drop, length, take, replicate, refl, sym, ap, ◌∙◌, subst, arith, append_assoc, drop-drop, drop_at, length-drop, length-take-le, take-append-drop, AllByRecursion, bytes_eq-Decides, Lines, Edit, length-reverse, reverse-append, reverse-reverse, AllZip, reverse, own_names, added_by, common_end, common_front, cond_both}
use Rattle.std.proofs.lemmas.Slice.Zip.{AllZip-long}
use Rattle.camp_questions.proofs.CommonSteps.{end_within, end_within_too, front_within, front_within_too}

module _ {A B : Type 0} (R : A → B → Type 0) where
  pub zipped_append : (xs ys : List A) (us vs : List B) → AllZip R xs us → AllZip R ys vs → AllZip R (xs ++ ys) (us ++ vs)
  zipped_append [] ys [] vs v w = w
  zipped_append [] ys (u ∷ us) vs v w = absurd v
  zipped_append (x ∷ xs) ys [] vs v w = absurd v
  zipped_append (x ∷ xs) ys (u ∷ us) vs v w = (v.0, zipped_append xs ys us vs v.1 w)

  pub zipped_take : (n : ℕ) (xs : List A) (us : List B) → AllZip R xs us → AllZip R (take n xs) (take n us)
  zipped_take zero xs us w = tt
  zipped_take (suc n) [] [] w = tt
  zipped_take (suc n) [] (u ∷ us) w = absurd w
  zipped_take (suc n) (x ∷ xs) [] w = absurd w
  zipped_take (suc n) (x ∷ xs) (u ∷ us) w = (w.0, zipped_take n xs us w.1)

  pub zipped_drop : (n : ℕ) (xs : List A) (us : List B) → AllZip R xs us → AllZip R (drop n xs) (drop n us)
  zipped_drop zero xs us w = w
  zipped_drop (suc n) [] [] w = tt
  zipped_drop (suc n) [] (u ∷ us) w = absurd w
  zipped_drop (suc n) (x ∷ xs) [] w = absurd w
  zipped_drop (suc n) (x ∷ xs) (u ∷ us) w = zipped_drop n xs us w.1

  one_for_all : (x : A) (us : List B) → AllByRecursion (R x) us → AllZip R (replicate (length us) x) us
  one_for_all x [] w = tt
  one_for_all x (u ∷ us) w = (w.0, one_for_all x us w.1)

  pub zipped_replicate : (x : A) (us : List B) (n : ℕ) → length us ≡ n → AllByRecursion (R x) us → AllZip R (replicate n x) us
  zipped_replicate x us n e w =
      subst (λ m. AllZip R (replicate m x) us) e (one_for_all x us w)

-- the common lines at the start of two lists are in both
pub same_front : (lines others : Lines) → take (common_front lines others) lines ≡ take (common_front lines others) others
same_front [] others = refl
same_front (x ∷ lines) [] = refl
same_front (x ∷ lines) (y ∷ others) = cond_both (bytes_eq x y) (suc (common_front lines others)) zero (λ n. take n (x ∷ lines) ≡ take n (y ∷ others)) (λ e i. (bytes_eq-Decides x y).0 e i ∷ same_front lines others i) (λ e. refl)

-- the last lines are the first ones of the reversed list
last_lines : (lines : Lines) (n : ℕ) → drop (length lines - n) lines ≡ reverse (take n (reverse lines))
last_lines lines n =
    let back : Lines = reverse lines in
    let parts : lines ≡ reverse (drop n back) ++ reverse (take n back) = sym (ap reverse (take-append-drop n back) ∙ reverse-reverse lines) ∙ reverse-append (take n back) (drop n back) in
    let size : length (reverse (drop n back)) ≡ length lines - n = length-reverse (drop n back) ∙ length-drop n back ∙ ap (λ k. k - n) (length-reverse lines) in
    ap (drop (length lines - n)) parts ∙ drop_at (reverse (drop n back)) (reverse (take n back)) (length lines - n) size

-- the common lines at the end are in both
pub same_end : (lines others : Lines) → drop (length lines - common_end lines others) lines ≡ drop (length others - common_end lines others) others
same_end lines others =
    last_lines lines (common_end lines others) ∙ ap reverse (same_front (reverse lines) (reverse others)) ∙ sym (last_lines others (common_end lines others))

-- the last lines of a list are those after a prefix
end_behind : (lines : Lines) (front end : ℕ) → front + end ≤ length lines → drop (length lines - end) lines ≡ drop (length (drop front lines) - end) (drop front lines)
end_behind lines front end within =
    let size : length (drop front lines) ≡ length lines - front = length-drop front lines in
    sym (drop-drop (length (drop front lines) - end) front lines ∙ ap (λ n. drop n lines) {x = front + (length (drop front lines) - end)} {y = length lines - end} (omega (arith, size, within)))

-- the new lines are those common at the start, those between, and those common at the end
new_parts : (lines : Lines) (front end : ℕ) → front + end ≤ length lines → take front lines ++ take (length lines - front - end) (drop front lines) ++ drop (length lines - end) lines ≡ lines
new_parts lines front end within =
    let between : ℕ = length lines - front - end in
    let rest : drop between (drop front lines) ≡ drop (length lines - end) lines = drop-drop between front lines ∙ ap (λ n. drop n lines) {x = front + between} {y = length lines - end} (omega (arith, within)) in
    append_assoc (take front lines) (take between (drop front lines)) (drop (length lines - end) lines) ∙ ap (λ l. take front lines ++ (take between (drop front lines) ++ l)) (sym rest) ∙ ap (λ l. take front lines ++ l) (take-append-drop between (drop front lines)) ∙ take-append-drop front lines

-- the names of the new lines of a hunk, given those of the lines that it removes
pub own_zipped : (R : List ℕ → List ℕ → Type 0) (gone : List (List ℕ)) (name : List ℕ) (hunk : Edit) → AllZip R gone hunk.old → AllByRecursion (R name) (added_by hunk) → AllZip R (own_names gone name hunk) hunk.new
own_zipped R gone name hunk have own =
    let old : Lines = hunk.old in
    let new : Lines = hunk.new in
    let front : ℕ = common_front old new in
    let end : ℕ = common_end (drop front old) (drop front new) in
    let between : ℕ = length new - front - end in
    let middle : Lines = take between (drop front new) in
    let long : length old ≡ length gone = AllZip-long R gone old have in
    let size_old : length (drop front old) ≡ length old - front = length-drop front old in
    let size_new : length (drop front new) ≡ length new - front = length-drop front new in
    let within_old : front + end ≤ length old = omega (arith, size_old, front_within old new, end_within (drop front old) (drop front new)) in
    let within_new : front + end ≤ length new = omega (arith, size_new, front_within_too old new, end_within_too (drop front old) (drop front new)) in
    let ends : drop (length gone - end) old ≡ drop (length new - end) new = ap (λ n. drop (n - end) old) (sym long) ∙ end_behind old front end within_old ∙ same_end (drop front old) (drop front new) ∙ sym (end_behind new front end within_new) in
    let first : AllZip R (take front gone) (take front new) = subst (AllZip R (take front gone)) (same_front old new) (zipped_take R front gone old have) in
    let second : AllZip R (replicate between name) middle = zipped_replicate R name middle between (length-take-le between (drop front new) (omega (arith, size_new, within_new))) own in
    let third : AllZip R (drop (length gone - end) gone) (drop (length new - end) new) = subst (AllZip R (drop (length gone - end) gone)) ends (zipped_drop R (length gone - end) gone old have) in
    subst (AllZip R (own_names gone name hunk)) (new_parts new front end within_new) (zipped_append R (take front gone ++ replicate between name) (drop (length gone - end) gone) (take front new ++ middle) (drop (length new - end) new) (zipped_append R (take front gone) (replicate between name) (take front new) middle first second) third)
