-- Trees, and the effects of the three kinds of change on them.
use Rattle.std.specs.Prelude.{◌≡◌, ℕ, ◌+◌, List, [], ◌++◌, length, None, Some}
use Rattle.std.specs.Ordering.{nat_cmp}
use Rattle.std.specs.Cmp.Lexicographic.{slice_cmp}
use Rattle.std.specs.FinMap.{FinMap, get, insert, remove}

-- the lines of a file, each as its bytes
abbrev pub Lines : Type 0
Lines = List (List ℕ)

-- a tree: a finite map from paths to lines, sorted by the bytes of the paths
abbrev pub Files : Type 0
Files = FinMap (slice_cmp nat_cmp) Lines

-- adding a file: its path has none before and an empty one after; all other paths are unchanged
pub record Adds (path : List ℕ) (old new : Files) : Type 0 where
  pub absent : get old path ≡ None
  pub becomes : new ≡ insert old path []

-- removing a file: its path has an empty one before and none after; all other paths are unchanged
pub record Removes (path : List ℕ) (old new : Files) : Type 0 where
  pub empty : get old path ≡ Some []
  pub becomes : new ≡ remove old path

-- replacing the lines `gone` by `come` at a line, counted from 1; the lines before and after them stay
pub record SplicesLines (line : ℕ) (gone come old new : Lines) : Type 0 where
  pub before : Lines
  pub after : Lines
  pub at : length before + 1 ≡ line
  pub was : old ≡ before ++ gone ++ after
  pub becomes : new ≡ before ++ come ++ after

-- replacing the lines `gone` by `come` at a line of the file at a path; all other files are unchanged
pub record Splices (path : List ℕ) (line : ℕ) (gone come : Lines) (old new : Files) : Type 0 where
  pub lines : Lines
  pub changed : Lines
  pub found : get old path ≡ Some lines
  pub splices : SplicesLines line gone come lines changed
  pub becomes : new ≡ insert old path changed
