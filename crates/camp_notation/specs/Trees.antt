-- Trees as text.
use Rattle.std.specs.Prelude.{ℕ, List, ◌++◌, codes}
use Rattle.std.specs.FinMap.{entries}
use Rattle.camp_base.specs.Trees.{Lines, Files}
use Rattle.camp_notation.specs.Words.{word_text, row, lines_text}

-- a file: PATH: [LINE, ..]
abbrev pub file_notation : List ℕ × Lines → List ℕ
file_notation file = word_text file.0 ++ codes ": " ++ lines_text file.1

-- the files in the order of the bytes of their paths, as a row in braces
abbrev pub tree_notation : Files → List ℕ
tree_notation tree = codes "{" ++ row file_notation (entries tree) ++ codes "}"
