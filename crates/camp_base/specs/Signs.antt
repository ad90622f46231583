-- Characters of ASCII by name.
use Rattle.std.specs.Prelude.{ℕ, Bool, ◌&&◌, nat_le}

-- a tab
abbrev pub tab : ℕ
tab = 9

-- LF, which ends a line
abbrev pub newline : ℕ
newline = 10

-- a space
abbrev pub space : ℕ
space = 32

-- `"`
abbrev pub quote : ℕ
quote = 34

-- `-`
abbrev pub hyphen : ℕ
hyphen = 45

-- `.`
abbrev pub dot : ℕ
dot = 46

-- `/`
abbrev pub slash : ℕ
slash = 47

-- `0`, the first of the decimal digits
abbrev pub digit_zero : ℕ
digit_zero = 48

-- `9`
abbrev pub digit_nine : ℕ
digit_nine = 57

-- `\`
abbrev pub backslash : ℕ
backslash = 92

-- `_`
abbrev pub underscore : ℕ
underscore = 95

-- `a`, the first of the small letters
abbrev pub small_a : ℕ
small_a = 97

-- a byte is between `low` and `high`, both included
abbrev pub is_between : ℕ → ℕ → ℕ → Bool
is_between low high byte = nat_le low byte && nat_le byte high

-- a byte is a decimal digit
abbrev pub is_digit : ℕ → Bool
is_digit byte = is_between digit_zero digit_nine byte

-- a byte is one of `A` to `Z`
abbrev pub is_capital_letter : ℕ → Bool
is_capital_letter byte = is_between 65 90 byte

-- a byte is one of `a` to `z`
abbrev pub is_small_letter : ℕ → Bool
is_small_letter byte = is_between small_a 122 byte

-- a byte is a printable character of ASCII except a space: `!` to `~`
abbrev pub is_graphic : ℕ → Bool
is_graphic byte = is_between 33 126 byte

-- a byte is a printable character of ASCII: a space to `~`
abbrev pub is_printing : ℕ → Bool
is_printing byte = is_between space 126 byte
