-- Lists of labelled primitives as text.
use Rattle.std.specs.Prelude.{ℕ, List, ◌++◌, codes}
use Rattle.camp_prim.specs.declared.named.Named.{Named}
use Rattle.camp_notation.specs.Words.{row}
use Rattle.camp_notation.specs.Patches.{named_text}

-- the primitives as a row in brackets
abbrev pub list_text : List Named → List Named → List ℕ
list_text known s = codes "[" ++ row (named_text known) s ++ codes "]"
