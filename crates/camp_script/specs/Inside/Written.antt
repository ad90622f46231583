-- The text of changes after the names of a record, and which calls other than records can be written.
use Rattle.std.specs.Prelude.{ℕ, List, [], ◌∷◌, ◌++◌, codes}
use Rattle.std.specs.List.{flat_map}
use Rattle.camp_call.specs.declared.calls.Call.{Call}
use Rattle.camp_call.specs.declared.calls.Call.TheVariants as call
use Rattle.camp_prim.specs.declared.primitives.Primitive.{Primitive}
use Rattle.camp_script.specs.Canonical.{canonical_change}
use Rattle.camp_script.specs.Keeping.{CanBeInScript}
use Rattle.camp_script.specs.Texts.{line_text}

-- a single change, or those of a group
abbrev pub patch_text : List Primitive → List ℕ
patch_text (change ∷ []) = canonical_change change
patch_text changes = line_text (codes "group" ∷ []) ++ flat_map canonical_change changes ++ line_text (codes "done" ∷ [])

-- a call that is no record can be in a script unless it has an empty list of names
abbrev pub CanBeOnLine : Call → Type 0
CanBeOnLine (call.Record branch name changes) = Unit {0}
CanBeOnLine other = CanBeInScript other
