-- Changes that lead from one tree to another.
use Rattle.std.specs.Prelude.{◌≡◌, ◌≢◌, ℕ, ◌<◌, ◌≤◌, ◌⊎◌, List, [], ◌∷◌, length, Some, Result, Ok, Err}
use Rattle.std.specs.FinMap.{get}
use Rattle.std.specs.Global.{Vec}
use Rattle.std.specs.Ordering.{nat_cmp}
use Rattle.std.specs.Cmp.Lexicographic.{slice_cmp}
use Rattle.camp_base.specs.Trees.{Files, Lines}
use Rattle.camp_prim.specs.Commuting.{path_of}
use Rattle.camp_prim.specs.Effect.{Applies}
use Rattle.camp_prim.specs.declared.primitives.Primitive.{Primitive}
use Rattle.camp_prim.specs.declared.primitives.Primitive.TheVariants.{Add, Remove, Hunk}
use Rattle.camp_share.specs.Maps.{map_of}
use Rattle.camp_import.specs.declared.edits.ChangeFault.{ChangeFault}
use Rattle.camp_import.specs.declared.edits.ChangeFault.TheVariants.{Memory, TooManyLines}

-- changes lead from one tree to another, each applied to the tree that those before it give
abbrev pub LeadThrough : List Primitive → Files → Files → Type 0
LeadThrough [] old new = old ≡ new
LeadThrough (change ∷ changes) old new = (between : Files) × Applies change old between × LeadThrough changes between new

-- the most lines of a file
abbrev pub most_file_lines : ℕ
most_file_lines = 1_000_000

-- a set of paths has a path
abbrev pub HasPath : List (List ℕ × Unit {0}) → List ℕ → Type 0
HasPath set path = get (map_of (slice_cmp nat_cmp) set) path ≡ Some tt

-- two trees have the same files at all paths outside a set
abbrev pub DifferWithin : List (List ℕ × Unit {0}) → Files → Files → Type 0
DifferWithin set old new = (path : List ℕ) → ¬ (HasPath set path) → get old path ≡ get new path

-- at each path of a set the files of two trees differ, or only one of them has a file
abbrev pub HasDifferencesOnly : List (List ℕ × Unit {0}) → Files → Files → Type 0
HasDifferencesOnly set old new = (path : List ℕ) → HasPath set path → get old path ≢ get new path

-- a change is of a path at which two trees differ
abbrev pub IsOfDifference : Files → Files → Primitive → Type 0
IsOfDifference old new change = get old (path_of change) ≢ get new (path_of change)

-- a tree has a file with too many lines
pub record HasLongFile (files : Files) : Type 0 where
  pub path : List ℕ
  pub lines : Lines
  pub found : get files path ≡ Some lines
  pub long : most_file_lines < length lines

-- the changes lead from the old tree to the new one; or one of the two has a file with too many lines; or memory ran
-- out
abbrev pub GivesChanges : (old new : Files) → Result (Vec Primitive) ChangeFault → Type 0
GivesChanges old new (Ok changes) = LeadThrough changes.items old new
GivesChanges old new (Err TooManyLines) = HasLongFile old ⊎ HasLongFile new
GivesChanges old new (Err Memory) = Unit {0}

-- the most lines of a side of a hunk that a script can hold
abbrev pub most_side_lines : ℕ
most_side_lines = 65_535

-- a script can represent a change: no side of a hunk is too long
abbrev pub HasShortSides : Primitive → Type 0
HasShortSides (Add path) = Unit {0}
HasShortSides (Remove path) = Unit {0}
HasShortSides (Hunk hunk) = (length hunk.old ≤ most_side_lines) × (length hunk.new ≤ most_side_lines)
