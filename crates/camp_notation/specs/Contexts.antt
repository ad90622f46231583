-- Contexted patches and sets of them as text.
use Rattle.std.specs.Prelude.{ℕ, List, [], ◌∷◌, ◌++◌, codes}
use Rattle.std.specs.FinMap.{values}
use Rattle.camp_prim.specs.declared.named.Named.{Named}
use Rattle.camp_ctx.specs.Contexts.{ContextedPatch, ContextedPatches}
use Rattle.camp_notation.specs.Words.{row}
use Rattle.camp_notation.specs.Patches.{named_text}
use Rattle.camp_notation.specs.Lists.{list_text}

-- a context: nothing if it is empty, a single primitive, or else a list
abbrev pub context_text : List Named → List Named → List ℕ
context_text known [] = []
context_text known (p ∷ []) = named_text known p
context_text known (p ∷ q ∷ s) = list_text known (p ∷ q ∷ s)

-- a contexted patch: CONTEXT:PATCH
abbrev pub contexted_text : List Named → ContextedPatch → List ℕ
contexted_text known x = context_text known x.context ++ codes ":" ++ named_text known x.patch

-- the members in the order of their labels, as a row in braces
abbrev pub set_text : List Named → ContextedPatches → List ℕ
set_text known xs = codes "{" ++ row (contexted_text known) (values xs) ++ codes "}"
