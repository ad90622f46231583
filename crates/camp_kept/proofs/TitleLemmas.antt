-- The titles of stores: how long they are, and that each says its limits.
use Rattle.std.proofs.Common.{◌≡◌, ◌≢◌, ◌+◌, ◌-◌, ◌<◌, ◌≤◌, ◌^◌, ℕ, Bool, true, false, List, [], ◌∷◌, ◌++◌, length, take, drop, nat_le, ◌&&◌, Ok, Option, None, Some, codes, refl, sym, ◌∙◌, ap, arith, append_assoc, length-append}
use Rattle.std.specs.Fmt.{decimal}
use Rattle.std.specs.List.{join_with_byte, list_all}
use Rattle.std.specs.Option.{option_and_then}
use Rattle.std.proofs.lemmas.Bool.{and_from, and_parts, cond-false, cond-true, eqb-true, le-leb}
use Rattle.std.proofs.lemmas.Fmt.{length-decimal-le}
use Rattle.std.proofs.lemmas.List.{take_at}
use Rattle.camp_kept.specs.Titles.{CanBeLimits, is_default, limits_among, title_of, title_with}
use Rattle.camp_repo.specs.Limits.{Bounds, bounded, default_bounds}
use Rattle.camp_repo.proofs.SameLimits.{same_bounds}
use Rattle.camp_script.proofs.CanonicalLines.{AreWords, words_joined}
use Rattle.camp_script.proofs.CanonicalNumbers.{decimal_is_line_number, decimal_is_word, value_of-decimal}
use Rattle.camp_script.specs.Lines.{words_of}
use Rattle.camp_base.specs.Signs.{is_between, is_digit}
use Rattle.camp_script.specs.Words.{count_of, last_line_number, value_of}

-- the words of a title that says limits, after the first three
abbrev pub limit_words : Bounds → List (List ℕ)
limit_words limits = codes "catches" ∷ decimal limits.catches ∷ codes "branches" ∷ decimal limits.branches ∷ []

abbrev pub joined : Bounds → List ℕ
joined limits = join_with_byte 32 (limit_words limits)

-- the text that is written, piece by piece
pub written : (catches branches : List ℕ) → ((catches ++ codes " branches ") ++ branches) ++ 10 ∷ [] ≡ (catches ++ (codes " branches " ++ branches)) ++ 10 ∷ []
written catches branches = ap (λ (l : List ℕ). l ++ 10 ∷ []) (append_assoc catches (codes " branches ") branches)

joined_short : (limits : Bounds) → CanBeLimits limits → length (joined limits) ≤ 31
joined_short limits range =
    let one : length (decimal limits.catches) ≤ 8 = length-decimal-le 8 limits.catches (omega arith) (omega (arith, range.few_catches)) (omega (arith, range.few_catches)) in
    let two : length (decimal limits.branches) ≤ 5 = length-decimal-le 5 limits.branches (omega arith) (omega (arith, range.few_branches)) (omega (arith, range.few_branches)) in
    omega (arith, one, two, length-append (decimal limits.catches) (32 ∷ (codes "branches" ++ 32 ∷ decimal limits.branches)))

title_with_short : (limits : Bounds) → CanBeLimits limits → length (title_with limits) ≤ 45
title_with_short limits range = omega (arith, joined_short limits range, length-append (joined limits) (10 ∷ []))

by_default : (limits : Bounds) (default : Bool) → is_default limits ≡ default → CanBeLimits limits → length (title_of limits) ≤ 45
by_default limits true is range = rw is (omega arith)
by_default limits false is range = rw is (title_with_short limits range)

-- a title has 45 bytes at most
pub title_short : (limits : Bounds) → CanBeLimits limits → length (title_of limits) ≤ 45
title_short limits range = by_default limits (is_default limits) refl range

-- a number of a title is read as it is
count_decoded : (n : ℕ) → 0 < n → n ≤ 16_777_216 → count_of (decimal n) ≡ Some n
count_decoded n some few =
    let long : Bool = is_between 1 10 (length (decimal n)) in
    let digits : Bool = list_all is_digit (decimal n) in
    let value : Bool = is_between 1 last_line_number (value_of (decimal n)) in
    let small : n < 2 ^ 64 = omega (arith, few) in
    let parts = and_parts long (digits && value) (decimal_is_line_number n (omega (arith, some)) (omega (arith, few))) in
    let both = and_from long digits parts.0 ((and_parts digits value parts.1).0) in
    cond-true (long && digits) (Some (value_of (decimal n))) None both ∙ ap Some (value_of-decimal n small)

are_words : (limits : Bounds) → CanBeLimits limits → AreWords (limit_words limits)
are_words limits range = (
  refl,
  (
    decimal_is_word limits.catches (omega (arith, range.few_catches)),
    (refl, (decimal_is_word limits.branches (omega (arith, range.few_branches)), tt)),
  ),
)

-- the words of a title are those of its limits
pub among : (limits : Bounds) → CanBeLimits limits → limits_among (words_of (joined limits)) ≡ Some (limits.catches, limits.branches)
among limits range =
    let catches = count_decoded limits.catches range.some_catches range.few_catches in
    let branches = count_decoded limits.branches range.some_branches (omega (arith, range.few_branches)) in
    ap limits_among (words_joined (limit_words limits) (are_words limits range))
    ∙ ap (λ (o : Option ℕ). option_and_then (λ most. option_and_then (λ others. Some (most, others)) (count_of (decimal limits.branches))) o) catches
    ∙ ap (λ (o : Option ℕ). option_and_then (λ others. Some (limits.catches, others)) o) branches

-- the part of a title between its first 13 bytes and its line feed
pub middle : (limits : Bounds) (text : List ℕ) → title_with limits ≡ text → take (length text - 1 - 13) (drop 13 text) ≡ joined limits
middle limits text is =
    let long : length text ≡ 13 + (length (joined limits) + 1) = ap (λ (l : List ℕ). length l) (sym is) ∙ omega (arith, length-append (joined limits) (10 ∷ [])) in
    let count : length (joined limits) ≡ length text - 1 - 13 = omega (arith, long) in
    ap (λ (l : List ℕ). take (length text - 1 - 13) (drop 13 l)) (sym is) ∙ take_at (joined limits) (10 ∷ []) (length text - 1 - 13) count

-- a title that says limits is longer than one that does not
pub longer : (limits : Bounds) (text : List ℕ) → title_with limits ≡ text → 13 < length text
longer limits text is = omega (arith, ap (λ (l : List ℕ). length l) is, length-append (joined limits) (10 ∷ []))

-- limits that are the default ones
pub is_the_default : (limits : Bounds) → is_default limits ≡ true → limits ≡ default_bounds
is_the_default limits is =
    let parts = and_parts _ _ is in
    same_bounds limits default_bounds (eqb-true limits.catches 4_096 parts.0) (eqb-true limits.branches 256 parts.1)

abbrev pub first_of : Option (ℕ × ℕ) → ℕ
first_of None = 0
first_of (Some numbers) = numbers.0

abbrev pub second_of : Option (ℕ × ℕ) → ℕ
second_of None = 0
second_of (Some numbers) = numbers.1

-- two titles that say limits
same_with : (one two : Bounds) → CanBeLimits one → CanBeLimits two → title_with one ≡ title_with two → one ≡ two
same_with one two range others same =
    let line : joined one ≡ joined two = sym (middle one (title_with two) same) ∙ middle two (title_with two) refl in
    let numbers : limits_among (words_of (joined one)) ≡ limits_among (words_of (joined two)) = ap (λ (l : List ℕ). limits_among (words_of l)) line in
    let catches : one.catches ≡ two.catches = ap first_of (sym (among one range) ∙ numbers ∙ among two others) in
    let branches : one.branches ≡ two.branches = ap second_of (sym (among one range) ∙ numbers ∙ among two others) in
    same_bounds one two catches branches

by_defaults : (one two : Bounds) (default other : Bool) → is_default one ≡ default → is_default two ≡ other → CanBeLimits one → CanBeLimits two → title_of one ≡ title_of two → one ≡ two
by_defaults one two true true is are range others same = is_the_default one is ∙ sym (is_the_default two are)
by_defaults one two true false is are range others same =
    let short : title_of one ≡ codes "camp store 1\n" = cond-true _ _ _ is in
    let long : title_of two ≡ title_with two = cond-false _ _ _ are in
    absurd (omega (arith, longer two (codes "camp store 1\n") (sym long ∙ sym same ∙ short)))
by_defaults one two false true is are range others same =
    let short : title_of two ≡ codes "camp store 1\n" = cond-true _ _ _ are in
    let long : title_of one ≡ title_with one = cond-false _ _ _ is in
    absurd (omega (arith, longer one (codes "camp store 1\n") (sym long ∙ same ∙ short)))
by_defaults one two false false is are range others same =
    same_with one two range others (sym (cond-false _ _ _ is) ∙ same ∙ cond-false _ _ _ are)

-- limits are determined by the title
pub one_title : (one two : Bounds) → CanBeLimits one → CanBeLimits two → title_of one ≡ title_of two → one ≡ two
one_title one two range others same = by_defaults one two (is_default one) (is_default two) refl refl range others same

-- a title that is not the one of the default limits says its limits
pub says_with : (limits : Bounds) (text : List ℕ) → title_of limits ≡ text → text ≢ codes "camp store 1\n" → title_with limits ≡ text
says_with limits text is other = by (is_default limits) refl where
  by : (default : Bool) → is_default limits ≡ default → title_with limits ≡ text
  by true are = absurd (other (sym is ∙ cond-true _ _ _ are))
  by false are = sym (cond-false _ _ _ are) ∙ is

-- limits are made of their numbers
pub bounded_in_range : (limits : Bounds) → CanBeLimits limits → bounded limits.catches limits.branches ≡ Ok limits
bounded_in_range limits range =
    let some_catches : 1 ≤ limits.catches = omega (arith, range.some_catches) in
    let some_branches : 1 ≤ limits.branches = omega (arith, range.some_branches) in
    let catches : (nat_le 1 limits.catches && nat_le limits.catches 16_777_216) ≡ true =
    and_from _ _ (le-leb 1 limits.catches some_catches) (le-leb limits.catches 16_777_216 range.few_catches) in
    let branches : (nat_le 1 limits.branches && nat_le limits.branches 65_536) ≡ true =
    and_from _ _ (le-leb 1 limits.branches some_branches) (le-leb limits.branches 65_536 range.few_branches) in
    cond-true _ _ _ catches ∙ cond-true _ _ _ branches

-- the numbers of a title are read from its words
pub numbers_of : (limits : Bounds) → CanBeLimits limits → (text : List ℕ) → title_with limits ≡ text
    → limits_among (take 6 (words_of (take (length text - 1 - 13) (drop 13 text)))) ≡ Some (limits.catches, limits.branches)
numbers_of limits range text is =
    let words : words_of (joined limits) ≡ limit_words limits = words_joined (limit_words limits) (are_words limits range) in
    ap (λ (l : List ℕ). limits_among (take 6 (words_of l))) (middle limits text is)
    ∙ ap (λ (ws : List (List ℕ)). limits_among (take 6 ws)) words
    ∙ ap limits_among (sym words)
    ∙ among limits range
