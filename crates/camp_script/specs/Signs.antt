-- The bytes that begin a line of a body, of a tree or a comment.
use Rattle.std.specs.Prelude.{ℕ}

-- `-`: a line that is removed
abbrev pub minus_sign : ℕ
minus_sign = 45

-- `+`: a line that is added
abbrev pub plus_sign : ℕ
plus_sign = 43

-- `=`: a line of a file
abbrev pub equals_sign : ℕ
equals_sign = 61

-- `#`: a comment
abbrev pub number_sign : ℕ
number_sign = 35
