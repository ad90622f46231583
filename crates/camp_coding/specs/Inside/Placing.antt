-- Setting and removing files of a camp tree whose paths may be no valid ones.
use Rattle.std.specs.Prelude.{◌≡◌, ℕ, true, false, List, Option, None, Some, Result, Ok, Err}
use Rattle.std.specs.FinMap.{get}
use Rattle.camp_base.specs.Bytes.{is_path}
use Rattle.camp_base.specs.Trees.{Files, Lines}
use Rattle.camp_coding.specs.declared.trees.EncodeFault.{EncodeFault}
use Rattle.camp_coding.specs.declared.trees.EncodeFault.TheVariants.{BadPath, TooManyLines, Memory}

-- in the new tree a path has these lines, or no file; all other paths are unchanged
pub record SetsFile (camp_path : List ℕ) (lines : Option Lines) (old new : Files) : Type 0 where
  pub at : get new camp_path ≡ lines
  pub other : (another : List ℕ) → ¬ (another ≡ camp_path) → get new another ≡ get old another

-- all files are at valid paths of camp
abbrev pub HasPathsOnly : Files → Type 0
HasPathsOnly files = (camp_path : List ℕ) (lines : Lines) → get files camp_path ≡ Some lines → is_path camp_path ≡ true

-- if there are lines, this is a valid path of camp
abbrev pub AtPath : List ℕ → Option Lines → Type 0
AtPath camp_path None = Unit {0}
AtPath camp_path (Some lines) = is_path camp_path ≡ true

-- there are lines, but this is no valid path of camp
abbrev pub AtNoPath : List ℕ → Option Lines → Type 0
AtNoPath camp_path None = ⊥
AtNoPath camp_path (Some lines) = is_path camp_path ≡ false

-- Ok: the file at this path has these lines, or is gone. BadPath: there are lines, but the path is not valid
abbrev pub SetsPlace : List ℕ → Option Lines → Files → Result (Unit {0}) EncodeFault → Files → Type 0
SetsPlace camp_path lines old (Ok done) new =
    AtPath camp_path lines × (HasPathsOnly old → SetsFile camp_path lines old new × HasPathsOnly new)
SetsPlace camp_path lines old (Err BadPath) new = AtNoPath camp_path lines
SetsPlace camp_path lines old (Err TooManyLines) new = ⊥
SetsPlace camp_path lines old (Err Memory) new = Unit {0}

-- the new tree has no file at this path, which need not be valid; all other paths are unchanged
abbrev pub ClearsPlace : List ℕ → Files → Files → Type 0
ClearsPlace camp_path old new = HasPathsOnly old → SetsFile camp_path None old new × HasPathsOnly new

-- the result is Ok if there are no lines, else `BadPath`
abbrev pub Refuses : Option Lines → Result (Unit {0}) EncodeFault → Type 0
Refuses None result = result ≡ Ok tt
Refuses (Some lines) result = result ≡ Err BadPath
