-- Bytes as words of the notation, and words in a row.
use Rattle.std.specs.Prelude.{ℕ, zero, suc, ◌+◌, ◌-◌, ◌/◌, ◌%◌, Bool, not, ◌&&◌, ◌||◌, ◌==◌, nat_lt, if◌then◌else◌}
use Rattle.std.specs.Prelude.{List, [], ◌∷◌, ◌++◌, length, codes}
use Rattle.std.specs.List.{list_all, flat_map}
use Rattle.camp_base.specs.Signs.{quote, hyphen, digit_zero, digit_nine, backslash, underscore, small_a}
use Rattle.camp_base.specs.Signs.{is_between, is_capital_letter, is_printing, is_small_letter}

-- a byte that needs no quotes: a letter, a digit, or one of `-`, `.`, `/` (the characters before the digits)
-- and `_`
abbrev pub is_plain_byte : ℕ → Bool
is_plain_byte byte = is_between hyphen digit_nine byte || (is_capital_letter byte || (is_small_letter byte || byte == underscore))

-- bytes are a word without quotes: at least one byte, and none that needs quotes
abbrev pub is_plain : List ℕ → Bool
is_plain bytes = not (length bytes == 0) && list_all is_plain_byte bytes

-- a hexadecimal digit: `0` to `9`, `a` to `f`
abbrev pub hex_digit : ℕ → ℕ
hex_digit n = if nat_lt n 10 then digit_zero + n else small_a + (n - 10)

-- a byte between quotes: `"` and `\` after a `\`; a byte that is not printable as `\x` and two hexadecimal digits
abbrev pub quoted_byte : ℕ → List ℕ
quoted_byte byte =
    if byte == quote || byte == backslash then backslash ∷ byte ∷ []
    else if is_printing byte then byte ∷ []
    else codes "\\x" ++ hex_digit (byte / 16) ∷ hex_digit (byte % 16) ∷ []

-- bytes as a word: unquoted if possible, else between quotes
abbrev pub word_text : List ℕ → List ℕ
word_text bytes = if is_plain bytes then bytes else codes "\"" ++ flat_map quoted_byte bytes ++ codes "\""

-- the separator before an item of a row: nothing before the first item, else a comma and a space
abbrev pub separator : ℕ → List ℕ
separator zero = []
separator (suc at) = codes ", "

-- the items of a row, separated by a comma and a space
abbrev pub row : {X : Type 0} → (X → List ℕ) → List X → List ℕ
row text [] = []
row text (x ∷ xs) = text x ++ flat_map (λ y. codes ", " ++ text y) xs

-- lines as a row in brackets
abbrev pub lines_text : List (List ℕ) → List ℕ
lines_text lines = codes "[" ++ row word_text lines ++ codes "]"
