-- The representation of a hunk.
use Rattle.std.specs.Prelude.{if◌then◌else◌}
use Rattle.camp_prim.specs.Hunks.{Edit, IsInRange}
use Rattle.camp_prim.specs.declared.hunks.Hunk.TheInside.{Inside}

-- the hunk that the fields represent
abbrev pub edit_of : Inside → Edit
edit_of hunk = record {
  path = hunk.body.path;
  line = hunk.line;
  old = if hunk.flipped then hunk.body.new else hunk.body.old;
  new = if hunk.flipped then hunk.body.old else hunk.body.new;
}

-- the hunk is in range
abbrev pub IsHunk : Inside → Type 0
IsHunk hunk = IsInRange (edit_of hunk)
