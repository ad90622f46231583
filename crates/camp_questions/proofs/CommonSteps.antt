-- The common lines of two lists at their start and end, line by line.
use Rattle.camp_questions.proofs.Words.{◌≡◌, ◌≤◌, ◌<◌, ℕ, zero, suc, ◌+◌, ◌-◌, Bool, true, false, cond, List, [], ◌∷◌, ◌++◌, bytes_eq, drop, length, take, replicate, get_or, sym, ap, ◌∙◌, arith, drop_more, length-append, length-drop, length-replicate, length-take-le, Lines, Edit, get_or-reverse, length-reverse, reverse, own_names, common_end, common_front, cond_both}

module _ (lines others : Lines) (at : ℕ) (so_far : common_front lines others ≡ at + common_front (drop at lines) (drop at others)) where
  module _ (x y : List ℕ) (within : at < length lines) (within_too : at < length others) (is : x ≡ get_or lines at x) (is_too : y ≡ get_or others at y) where
    next_of_both : (b : Bool) → bytes_eq x y ≡ b → common_front (drop at lines) (drop at others) ≡ cond b (suc (common_front (drop (at + 1) lines) (drop (at + 1) others))) zero
    next_of_both b same =
        let first : drop at lines ≡ x ∷ drop (at + 1) lines = drop_more lines at x within ∙ ap (λ l. l ∷ drop (at + 1) lines) (sym is) in
        let second : drop at others ≡ y ∷ drop (at + 1) others = drop_more others at y within_too ∙ ap (λ l. l ∷ drop (at + 1) others) (sym is_too) in
        (λ i. common_front (first i) (second i)) ∙ ap (λ c. cond c (suc (common_front (drop (at + 1) lines) (drop (at + 1) others))) zero) same

    -- one more line is equal
    pub one_more_common : bytes_eq x y ≡ true → common_front lines others ≡ (at + 1) + common_front (drop (at + 1) lines) (drop (at + 1) others)
    one_more_common same =
        let next = next_of_both true same in
        omega (arith, so_far, next)

    -- one line differs
    pub no_more_common : bytes_eq x y ≡ false → at ≡ common_front lines others
    no_more_common other =
        let next = next_of_both false other in
        omega (arith, so_far, next)

-- the same of the lines from the end
module _ (lines others : Lines) (at : ℕ) (so_far : common_front (reverse lines) (reverse others) ≡ at + common_front (drop at (reverse lines)) (drop at (reverse others))) where
  module _ (x y : List ℕ) (within : at < length lines) (within_too : at < length others) (is : x ≡ get_or lines (length lines - 1 - at) x) (is_too : y ≡ get_or others (length others - 1 - at) y) where
    pub one_more_at_end : bytes_eq x y ≡ true → common_front (reverse lines) (reverse others) ≡ (at + 1) + common_front (drop (at + 1) (reverse lines)) (drop (at + 1) (reverse others))
    one_more_at_end =
        one_more_common (reverse lines) (reverse others) at so_far x y (omega (arith, length-reverse lines)) (omega (arith, length-reverse others)) (is ∙ sym (get_or-reverse lines at x within)) (is_too ∙ sym (get_or-reverse others at y within_too))

    pub no_more_at_end : bytes_eq x y ≡ false → at ≡ common_end lines others
    no_more_at_end =
        no_more_common (reverse lines) (reverse others) at so_far x y (omega (arith, length-reverse lines)) (omega (arith, length-reverse others)) (is ∙ sym (get_or-reverse lines at x within)) (is_too ∙ sym (get_or-reverse others at y within_too))

-- the number of common lines is at most the length
pub front_within : (lines others : Lines) → common_front lines others ≤ length lines
front_within [] others = omega arith
front_within (x ∷ lines) [] = omega arith
front_within (x ∷ lines) (y ∷ others) = cond_both (bytes_eq x y) (suc (common_front lines others)) zero (λ n. n ≤ suc (length lines)) (λ e. omega (arith, front_within lines others)) (λ e. omega arith)

pub front_within_too : (lines others : Lines) → common_front lines others ≤ length others
front_within_too [] others = omega arith
front_within_too (x ∷ lines) [] = omega arith
front_within_too (x ∷ lines) (y ∷ others) =
    cond_both (bytes_eq x y) (suc (common_front lines others)) zero (λ n. n ≤ suc (length others)) (λ e. omega (arith, front_within_too lines others)) (λ e. omega arith)

-- the same for the common lines at the end
pub end_within : (lines others : Lines) → common_end lines others ≤ length lines
end_within lines others =
    omega (arith, front_within (reverse lines) (reverse others), length-reverse lines)

pub end_within_too : (lines others : Lines) → common_end lines others ≤ length others
end_within_too lines others =
    omega (arith, front_within_too (reverse lines) (reverse others), length-reverse others)

-- a hunk gives as many names as it has new lines
pub own_count : (gone : List (List ℕ)) (name : List ℕ) (hunk : Edit) → length gone ≡ length hunk.old → length (own_names gone name hunk) ≡ length hunk.new
own_count gone name hunk many =
    let front : ℕ = common_front hunk.old hunk.new in
    let end : ℕ = common_end (drop front hunk.old) (drop front hunk.new) in
    let between : ℕ = length hunk.new - front - end in
    let first = length-take-le front gone (omega (arith, many, front_within hunk.old hunk.new)) in
    let middle = length-replicate between name in
    let last = length-drop (length gone - end) gone in
    let behind = length-append (take front gone) (replicate between name) in
    let all = length-append (take front gone ++ replicate between name) (drop (length gone - end) gone) in
    omega (arith, many, first, middle, last, behind, all, front_within hunk.old hunk.new, front_within_too hunk.old hunk.new, end_within (drop front hunk.old) (drop front hunk.new), end_within_too (drop front hunk.old) (drop front hunk.new), length-drop front hunk.old, length-drop front hunk.new)
