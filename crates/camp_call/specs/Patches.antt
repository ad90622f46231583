-- The size of a patch.
use Rattle.std.specs.Prelude.{◌≤◌, List, length}
use Rattle.camp_base.specs.Limits.{most_changes}
use Rattle.camp_prim.specs.declared.primitives.Primitive.{Primitive}

-- a patch may have this number of changes: 1 to 64
abbrev pub IsPatchSized : List Primitive → Type 0
IsPatchSized changes = (1 ≤ length changes) × (length changes ≤ most_changes)
