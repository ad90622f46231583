-- Catches and lists of them as text.
use Rattle.std.specs.Prelude.{ℕ, List, ◌++◌, codes}
use Rattle.camp_prim.specs.declared.named.Named.{Named}
use Rattle.camp_catch.specs.declared.catches.Catch.{Catch}
use Rattle.camp_catch.specs.declared.catches.Catch.TheVariants.{Plain}
use Rattle.camp_notation.specs.Words.{row}
use Rattle.camp_notation.specs.Patches.{named_text}
use Rattle.camp_notation.specs.Lists.{list_text}
use Rattle.camp_notation.specs.Contexts.{contexted_text, set_text}

-- a plain catch, as [PATCH], or a conflictor, as (EFFECT, SET, IDENTITY)
abbrev pub catch_text : List Named → Catch → List ℕ
catch_text known (Plain a) = codes "[" ++ named_text known a ++ codes "]"
catch_text known (Catch.Conflictor k) =
    codes "(" ++ list_text known k.effect ++ codes ", " ++ set_text known k.conflicts ++ codes ", "
    ++ contexted_text known k.identity ++ codes ")"

-- the catches as a row in brackets
abbrev pub catches_text : List Named → List Catch → List ℕ
catches_text known list = codes "[" ++ row (catch_text known) list ++ codes "]"
