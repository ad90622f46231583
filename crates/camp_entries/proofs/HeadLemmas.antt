-- The first line of an entry, taken apart.
use Rattle.std.proofs.Common.{◌≡◌, ◌≢◌, ℕ, ◌+◌, ◌-◌, ◌^◌, ◌<◌, ◌≤◌, Bool, true, false, not, ◌&&◌, ◌==◌, List, [], ◌∷◌, ◌++◌, length, take, drop, codes, refl, sym, ap, subst, ◌∙◌, arith, rules, length-append, append_assoc}
use Rattle.std.specs.Char.{digit_value}
use Rattle.std.specs.List.{list_all}
use Rattle.std.specs.Fmt.{decimal}
use Rattle.std.specs.Str.Parse.{AllDigits}
use Rattle.std.proofs.lemmas.Bool.{and_from}
use Rattle.std.proofs.lemmas.Fmt.{IsAscii-decimal, decimal_is_IsNumeral}
use Rattle.std.proofs.lemmas.Str.{IsUtf8-from_ascii}
use Rattle.std.specs.Str.{IsUtf8}
use Rattle.std.proofs.Math.Seq.{drop-append_seam, take-append_seam}
use Rattle.std.proofs.lemmas.List.Folds.{list_all-append}
use Rattle.camp_entries.specs.Texts.{text_of_head, is_one_line, seat_text}
use Rattle.camp_entries.proofs.SeatLemmas.{are_digits, length-hex_digits}

digit_stays : (radix d : ℕ) → radix ≤ 36 → digit_value d < radix → not (d == 10) ≡ true
digit_stays radix d most small = grind (arith)

digits_on_line : (radix : ℕ) (ds : List ℕ) → radix ≤ 36 → AllDigits radix ds → is_one_line ds ≡ true
digits_on_line radix [] most all = refl
digits_on_line radix (d ∷ ds) most all = and_from (not (d == 10)) (is_one_line ds) (digit_stays radix d most all.0) (digits_on_line radix ds most all.1)

module _ (seat number : ℕ) (body bytes : List ℕ) (small : number < 2 ^ 64) (is : bytes ≡ text_of_head seat number ++ body) where
  abbrev first : List ℕ
  first = codes "entry " ++ (seat_text seat ++ 32 ∷ [])

  abbrev pub line : List ℕ
  line = codes "entry " ++ (seat_text seat ++ 32 ∷ decimal number)

  pub on_line : bytes ≡ line ++ 10 ∷ body
  on_line = is ∙ append_assoc line (10 ∷ []) body

  pub one_line : is_one_line line ≡ true
  one_line =
      let seats = digits_on_line 16 (seat_text seat) (omega arith) (are_digits 32 seat) in
      let numbers = digits_on_line 10 (decimal number) (omega arith) ((decimal_is_IsNumeral number small).0.1) in
      list_all-append (λ byte. not (byte == 10)) (seat_text seat) (32 ∷ decimal number) ∙ and_from (is_one_line (seat_text seat)) (is_one_line (decimal number)) seats numbers

  pub long : length line ≡ 39 + length (decimal number)
  long =
      let seats = length-append (seat_text seat) (32 ∷ decimal number) in
      let digits = length-hex_digits 32 seat in
      omega (arith, seats, digits)

  pub head_long : length (text_of_head seat number) ≡ length line + 1
  head_long = length-append line (10 ∷ [])

  first_long : length first ≡ 39
  first_long =
      let seats = length-append (seat_text seat) (32 ∷ []) in
      let digits = length-hex_digits 32 seat in
      omega (arith, seats, digits)

  pub seat_part : take 32 (drop 6 bytes) ≡ seat_text seat
  seat_part =
      ap (λ (b : List ℕ). take 32 (drop 6 b)) on_line
      ∙ ap (λ (b : List ℕ). take 32 b) (append_assoc (seat_text seat) (32 ∷ decimal number) (10 ∷ body))
      ∙ ap (λ n. take n (seat_text seat ++ (32 ∷ decimal number ++ 10 ∷ body))) (sym (length-hex_digits 32 seat))
      ∙ take-append_seam (seat_text seat) (32 ∷ decimal number ++ 10 ∷ body)

  rest_is : bytes ≡ first ++ (decimal number ++ 10 ∷ body)
  rest_is =
      on_line
      ∙ ap (λ (t : List ℕ). codes "entry " ++ t) (append_assoc (seat_text seat) (32 ∷ decimal number) (10 ∷ body) ∙ sym (append_assoc (seat_text seat) (32 ∷ []) (decimal number ++ 10 ∷ body)))

  pub number_part : (len : ℕ) → len ≡ length line + 1 → take (len - 1 - 39) (drop 39 bytes) ≡ decimal number
  number_part len at =
      let dropped : drop 39 bytes ≡ decimal number ++ 10 ∷ body =
      ap (λ (b : List ℕ). drop 39 b) rest_is ∙ ap (λ n. drop n (first ++ (decimal number ++ 10 ∷ body))) (sym first_long) ∙ drop-append_seam first (decimal number ++ 10 ∷ body) in
      let count : len - 1 - 39 ≡ length (decimal number) = let all = long in omega (arith, at, all) in
      ap (λ (b : List ℕ). take (len - 1 - 39) b) dropped ∙ ap (λ n. take n (decimal number ++ 10 ∷ body)) count ∙ take-append_seam (decimal number) (10 ∷ body)

pub number_is_utf8 : (number : ℕ) (digits : List ℕ) → number < 2 ^ 64 → decimal number ≡ digits → IsUtf8 digits
number_is_utf8 number digits small is = subst (λ ds. IsUtf8 ds) is (IsUtf8-from_ascii (decimal number) (IsAscii-decimal number small))
