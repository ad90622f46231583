-- The digits of a seat.
use Rattle.std.proofs.Common.{◌≡◌, ◌≢◌, ℕ, suc, zero, ◌+◌, ◌*◌, ◌/◌, ◌%◌, ◌^◌, ◌<◌, List, [], ◌∷◌, ◌++◌, length, get_or, Result, Ok, refl, sym, ap, subst, ◌∙◌, arith, rules, length-append, append_assoc}
use native.Mathlib.Numerals.{unary_clauses}
use Rattle.std.specs.Char.{digit_char, digit_value}
use Rattle.std.specs.Str.{IsAscii, IsUtf8}
use Rattle.std.specs.Str.Parse.{AllDigits, IsNumeral, ParsesUnsigned, digits_value, without_leading_plus}
use Rattle.std.proofs.lemmas.Int.Digits.{digits_value_push}
use Rattle.std.proofs.lemmas.Result.{Ok-from_Ok_iff}
use Rattle.std.proofs.lemmas.Str.{IsAscii-append, IsUtf8-from_ascii, digit_value-digit_char}
use Rattle.std.proofs.lemmas.Str.Ascii.{IsAscii-nil}
use Rattle.std.proofs.lemmas.Str.Parse.{without_leading_plus_none}
use Rattle.camp_entries.specs.Texts.{hex_digits, seat_text}

pub no_digits : (number : ℕ) → hex_digits 0 number ≡ []
unfolding hex_digits
no_digits number = refl

pub last_digit : (count number : ℕ) → hex_digits (suc count) number ≡ hex_digits count (number / 16) ++ digit_char (number % 16) ∷ []
unfolding hex_digits
last_digit count number = refl

pub length-hex_digits : (count number : ℕ) → length (hex_digits count number) ≡ count
length-hex_digits zero number = ap length (no_digits number)
length-hex_digits (suc count) number =
    let long = length-append (hex_digits count (number / 16)) (digit_char (number % 16) ∷ []) in
    let rest = length-hex_digits count (number / 16) in
    let size = ap length (last_digit count number) in
    omega (arith, long, rest, size)

digits_push : (ds : List ℕ) (d : ℕ) → AllDigits 16 ds → d < 16 → AllDigits 16 (ds ++ digit_char d ∷ [])
digits_push [] d all small = (subst (λ v. v < 16) (sym (digit_value-digit_char d (omega arith))) small, tt)
digits_push (x ∷ ds) d all small = (all.0, digits_push ds d all.1 small)

pub are_digits : (count number : ℕ) → AllDigits 16 (hex_digits count number)
are_digits zero number = subst (λ ds. AllDigits 16 ds) (sym (no_digits number)) tt
are_digits (suc count) number = subst (λ ds. AllDigits 16 ds) (sym (last_digit count number)) (digits_push (hex_digits count (number / 16)) (number % 16) (are_digits count (number / 16)) (omega arith))

value : (count number : ℕ) → number < 16 ^ count → digits_value 16 (hex_digits count number) ≡ number
value zero number small = let none = ap (digits_value 16) (no_digits number) in let is_zero : digits_value 16 [] ≡ 0 = refl in let below : number < 1 = small in omega (arith, none, is_zero, below)
value (suc count) number small =
    let few = simp unary_clauses at small in
    let rest = value count (number / 16) (omega (arith, few)) in
    let push = digits_value_push 16 (hex_digits count (number / 16)) (digit_char (number % 16)) in
    let last = digit_value-digit_char (number % 16) (omega arith) in
    let is = ap (digits_value 16) (last_digit count number) in
    omega (arith, rest, push, last, is)

-- the digits after those that are there
pub one_more : (count rest digit seat : ℕ) (text : List ℕ) → digit ≡ digit_char (rest % 16) → seat_text seat ≡ hex_digits (suc count) rest ++ text → seat_text seat ≡ hex_digits count (rest / 16) ++ digit ∷ text
one_more count rest digit seat text is all =
    all ∙ ap (λ t. t ++ text) (last_digit count rest) ∙ append_assoc (hex_digits count (rest / 16)) (digit_char (rest % 16) ∷ []) text ∙ ap (λ d. hex_digits count (rest / 16) ++ d ∷ text) (sym is)

pub all_digits : (rest seat : ℕ) (text : List ℕ) → seat_text seat ≡ hex_digits 0 rest ++ text → text ≡ seat_text seat
all_digits rest seat text all = sym (all ∙ ap (λ t. t ++ text) (no_digits rest))

-- a digit is no plus sign
no_plus : (ds : List ℕ) → AllDigits 16 ds → get_or ds 0 0 ≢ 43
no_plus [] all e = absurd (omega (arith, e))
no_plus (d ∷ ds) all e = absurd (omega (arith, subst (λ c. digit_value c < 16) e all.0))

pub seat_parses : {E : Type 0} (seat : ℕ) (digits : List ℕ) (found : Result ℕ E) → seat < 2 ^ 128 → seat_text seat ≡ digits → ParsesUnsigned 128 16 digits found → found ≡ Ok seat
seat_parses seat digits found small is parses =
    let all = are_digits 32 seat in
    let plain = without_leading_plus_none (seat_text seat) (no_plus (seat_text seat) all) in
    let is_value : digits_value 16 (without_leading_plus (seat_text seat)) ≡ seat = ap (digits_value 16) plain ∙ value 32 seat small in
    let some : 0 < length (seat_text seat) = let long = length-hex_digits 32 seat in omega (arith, long) in
    let numeral : IsNumeral 16 (without_leading_plus (seat_text seat)) = subst (λ ds. IsNumeral 16 ds) (sym plain) (some, all) in
    let parsed : ParsesUnsigned 128 16 (seat_text seat) found = subst (λ ds. ParsesUnsigned 128 16 ds found) (sym is) parses in
    Ok-from_Ok_iff found _ _ parsed (numeral, subst (λ n. n < 2 ^ 128) (sym is_value) small) ∙ ap Ok is_value

ascii_push : (ds : List ℕ) (d : ℕ) → IsAscii ds → d < 16 → IsAscii (ds ++ digit_char d ∷ [])
ascii_push ds d all small = IsAscii-append ds (digit_char d ∷ []) all (search rules)

pub seat_is_ascii : (count number : ℕ) → IsAscii (hex_digits count number)
seat_is_ascii zero number = subst (λ ds. IsAscii ds) (sym (no_digits number)) IsAscii-nil
seat_is_ascii (suc count) number = subst (λ ds. IsAscii ds) (sym (last_digit count number)) (ascii_push (hex_digits count (number / 16)) (number % 16) (seat_is_ascii count (number / 16)) (omega arith))

pub seat_is_utf8 : (seat : ℕ) (digits : List ℕ) → seat_text seat ≡ digits → IsUtf8 digits
seat_is_utf8 seat digits is = subst (λ ds. IsUtf8 ds) is (IsUtf8-from_ascii (seat_text seat) (seat_is_ascii 32 seat))
