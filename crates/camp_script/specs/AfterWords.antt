-- The rest of a line after its first word.
use Rattle.std.specs.Prelude.{ℕ, List, drop, not}
use Rattle.std.specs.List.{position_or_len}
use Rattle.camp_script.specs.Lines.{is_blank}

-- a line without the blanks before its first word
abbrev pub after_blanks : List ℕ → List ℕ
after_blanks line = drop (position_or_len (λ byte. not (is_blank byte)) line) line

-- a line without its first word and without the blanks before and after that word
abbrev pub after_word : List ℕ → List ℕ
after_word line = after_blanks (drop (position_or_len is_blank (after_blanks line)) (after_blanks line))
