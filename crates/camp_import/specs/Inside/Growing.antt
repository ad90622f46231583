-- Lists of changes that grow by the changes of one file.
use Rattle.std.specs.Prelude.{◌≡◌, ◌≢◌, ℕ, ◌+◌, ◌-◌, ◌<◌, ◌≤◌, ◌⊎◌, List, ◌++◌, length, Option, Some, None, Result, Ok, Err}
use Rattle.std.specs.FinMap.{get}
use Rattle.std.specs.List.{AllByRecursion}
use Rattle.camp_base.specs.Trees.{Files, Lines}
use Rattle.camp_diff.specs.EditScripts.{AppliesHunk, lines_between}
use Rattle.camp_diff.specs.declared.hunks.DiffHunk.{DiffHunk}
use Rattle.camp_prim.specs.Commuting.{path_of}
use Rattle.camp_prim.specs.Hunks.{hunk_of}
use Rattle.camp_prim.specs.declared.primitives.Primitive.{Primitive}
use Rattle.camp_prim.specs.declared.primitives.Primitive.TheVariants.{Hunk}
use Rattle.camp_import.specs.TreeChanges.{HasShortSides, LeadThrough, most_file_lines, most_side_lines}
use Rattle.camp_import.specs.declared.edits.ChangeFault.{ChangeFault}
use Rattle.camp_import.specs.declared.edits.ChangeFault.TheVariants.{Memory, TooManyLines}

-- in the new tree a path has these lines, or no file; all other paths are unchanged
pub record PutsLines (path : List ℕ) (lines : Option Lines) (old new : Files) : Type 0 where
  pub at : get new path ≡ lines
  pub other : (another : List ℕ) → ¬ (another ≡ path) → get new another ≡ get old another

-- changes lead from a tree to one in which a path has these lines, or no file
pub record LeadToFile (path : List ℕ) (lines : Option Lines) (changes : List Primitive) (old : Files) : Type 0 where
  pub after : Files
  pub lead : LeadThrough changes old after
  pub sets : PutsLines path lines old after

-- a change is of this path, whose file is to become another one
abbrev pub IsOfChangedFile : List ℕ → (old new : Option Lines) → Primitive → Type 0
IsOfChangedFile path old new change = (path_of change ≡ path) × (old ≢ new)

-- a list grows by changes that lead from each tree with these old lines at a path to one with those new lines there
pub record GrowsByFile (path : List ℕ) (old new : Option Lines) (before after : List Primitive) : Type 0 where
  pub more : List Primitive
  pub grows : after ≡ before ++ more
  pub changes : (files : Files) → get files path ≡ old → LeadToFile path new more files
  pub short : AllByRecursion HasShortSides more
  pub needed : AllByRecursion (IsOfChangedFile path old new) more

-- the primitive of a hunk of an edit script
abbrev pub primitive_of : List ℕ → (old new : Lines) → DiffHunk → Primitive
primitive_of path old new hunk =
    Hunk (hunk_of path (hunk.new_start + 1) (lines_between hunk.old_start hunk.old_end old) (lines_between hunk.new_start hunk.new_end new))

-- the lines of a file, if there is one, are too many
abbrev pub AreTooMany : Option Lines → Type 0
AreTooMany None = ⊥
AreTooMany (Some lines) = most_file_lines < length lines

-- a list grows by the changes of a file; or a state of the file has too many lines; or memory ran out
abbrev pub GrowsByFileOr : List ℕ → (old new : Option Lines) → List Primitive → Result (Unit {0}) ChangeFault → List Primitive → Type 0
GrowsByFileOr path old new before (Ok done) after = GrowsByFile path old new before after
GrowsByFileOr path old new before (Err TooManyLines) after = AreTooMany old ⊎ AreTooMany new
GrowsByFileOr path old new before (Err Memory) after = Unit {0}

-- a list grows by the changes of a hunk, whatever the other lines of the file are
pub record GrowsByHunk (path : List ℕ) (old new : Lines) (hunk : DiffHunk) (before after : List Primitive) : Type 0 where
  pub more : List Primitive
  pub grows : after ≡ before ++ more
  pub changes : (file later : Lines) → AppliesHunk old new hunk file later → (files : Files) → get files path ≡ Some file → LeadToFile path (Some later) more files
  pub short : AllByRecursion HasShortSides more
  pub own : AllByRecursion (λ change. path_of change ≡ path) more

-- neither side of a hunk is too long for a script
pub record IsShort (hunk : DiffHunk) : Type 0 where
  pub old_short : hunk.old_end ≤ hunk.old_start + most_side_lines
  pub new_short : hunk.new_end ≤ hunk.new_start + most_side_lines

-- a piece is the start of a hunk: neither side is too long for a script, and what the piece leaves is smaller than the
-- hunk
pub record IsFirstPiece (hunk piece : DiffHunk) : Type 0 where
  pub old_start : piece.old_start ≡ hunk.old_start
  pub new_start : piece.new_start ≡ hunk.new_start
  pub old_from : piece.old_start ≤ piece.old_end
  pub new_from : piece.new_start ≤ piece.new_end
  pub old_to : piece.old_end ≤ hunk.old_end
  pub new_to : piece.new_end ≤ hunk.new_end
  pub short : IsShort piece
  pub smaller : hunk.old_end - piece.old_end + (hunk.new_end - piece.new_end) < hunk.old_end - hunk.old_start + (hunk.new_end - hunk.new_start)
