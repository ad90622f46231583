-- The decimal digits of the number of a line.
use Rattle.camp_script.proofs.Common.{◌≡◌, ℕ, ◌+◌, ◌-◌, ◌*◌, ◌^◌, ◌<◌, ◌≤◌, Bool, true, nat_lt, List, length, arith, rules, nat_tests, list_all, decimal, is_between, value_of, is_line_number, fold}
use Rattle.std.proofs.lemmas.Fmt.{digits_decimal, digits_value-decimal, length-decimal-le, decimal_nonempty}
use Rattle.std.proofs.lemmas.Str.Parse.{IsNumeralModel, numerals_by_fold}
use Rattle.camp_script.proofs.CanonicalLines.{both, all_weaker, is_word, is_word_byte}

abbrev are_digits : List ℕ → Bool
are_digits digits = list_all (is_between 48 57) digits

abbrev value_on : ℕ → List ℕ → ℕ
value_on n digits = fold (λ value digit. value * 10 + (digit - 48)) n digits

own : IsNumeralModel (λ ds. are_digits ds ≡ true) (value_on 0)
own = numerals_by_fold _ (search rules) value_on (search rules)

pub decimal_is_word : (n : ℕ) → n < 2 ^ 64 → is_word (decimal n) ≡ true
decimal_is_word n small = both (nat_lt 0 (length (decimal n))) (list_all is_word_byte (decimal n)) (let some = decimal_nonempty n small in grind (arith, nat_tests)) (all_weaker (is_between 48 57) is_word_byte (λ x h. grind (arith, nat_tests)) (decimal n) (digits_decimal own n small))

pub value_of-decimal : (n : ℕ) → n < 2 ^ 64 → value_of (decimal n) ≡ n
value_of-decimal n small = digits_value-decimal own n small

pub decimal_is_line_number : (n : ℕ) → 1 ≤ n → n ≤ 1_073_741_823 → is_line_number (decimal n) ≡ true
decimal_is_line_number n low high =
    let small : n < 2 ^ 64 = omega arith in
    let some = decimal_nonempty n small in
    let short = length-decimal-le 10 n (omega arith) (omega arith) small in
    both (is_between 1 10 (length (decimal n))) _ (grind (arith, nat_tests))
    (both (are_digits (decimal n)) _ (digits_decimal own n small) (rw (value_of-decimal n small) (grind (arith, nat_tests))))
