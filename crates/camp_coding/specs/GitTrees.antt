-- Trees of git as trees of camp.
use Rattle.std.specs.Prelude.{◌≡◌, ◌↔◌, ℕ, ◌≤◌, ◌<◌, if◌then◌else◌, Bool, true, false, List, [], ◌∷◌, length, Option, None, Some, option_and_then, is_some, Result, Ok, Err}
use Rattle.std.specs.Ordering.{nat_cmp}
use Rattle.std.specs.Cmp.Lexicographic.{slice_cmp}
use Rattle.std.specs.FinMap.{FinMap, get, insert, remove}
use Rattle.camp_base.specs.Bytes.{is_path}
use Rattle.camp_base.specs.Trees.{Files, Lines}
use Rattle.camp_coding.specs.Attributes.{attribute_path}
use Rattle.camp_coding.specs.Contents.{decoded, lacks_last_newline, needs_pieces, stored_lines}
use Rattle.camp_coding.specs.GitPaths.{AreBytes, escaped_path}
use Rattle.camp_coding.specs.Modes.{mode_text}
use Rattle.camp_coding.specs.declared.attributes.Attribute.{Attribute}
use Rattle.camp_coding.specs.declared.attributes.Attribute.TheVariants.{ModeLine, LacksNewline, Wrapped, EmptyCommit}
use Rattle.camp_coding.specs.declared.modes.Mode.{Mode}
use Rattle.camp_coding.specs.declared.modes.Mode.TheVariants.{Regular, Executable, Symlink, Submodule}
use Rattle.camp_coding.specs.declared.trees.EncodeFault.{EncodeFault}
use Rattle.camp_coding.specs.declared.trees.EncodeFault.TheVariants.{BadPath, TooManyLines, Memory}

-- an entry of a git tree that is not a tree itself: its mode and its content
pub record GitFile : Type 0 where
  pub mode : Mode
  pub content : List ℕ

-- a git tree: the entry of each path
abbrev pub GitEntries : Type 0
GitEntries = FinMap (slice_cmp nat_cmp) GitFile

-- the path in camp of a path of git or, given an attribute, of that attribute
abbrev pub place_path : Option Attribute → List ℕ → List ℕ
place_path None path = escaped_path path
place_path (Some attribute) path = attribute_path attribute path

-- an empty file, or no file
abbrev pub empty_file_if : Bool → Option Lines
empty_file_if true = Some []
empty_file_if false = None

-- whether a mode is that of a regular file
abbrev pub is_regular : Mode → Bool
is_regular Regular = true
is_regular Executable = false
is_regular Symlink = false
is_regular Submodule = false

-- the file that stores a mode: one line; none for a regular file
abbrev pub mode_lines : Mode → Option Lines
mode_lines mode = if is_regular mode then None else Some (mode_text mode ∷ [])

-- the files that camp stores for an entry of git: the stored lines at its own path, and one file for each attribute
-- that it has
abbrev pub place_lines : Option Attribute → GitFile → Option Lines
place_lines None file = Some (stored_lines file.content)
place_lines (Some ModeLine) file = mode_lines file.mode
place_lines (Some LacksNewline) file = empty_file_if (lacks_last_newline file.content)
place_lines (Some Wrapped) file = empty_file_if (needs_pieces file.content)
place_lines (Some EmptyCommit) file = None

-- the path in camp of some path of git, or of an attribute of one
pub record IsEntryPlace (camp_path : List ℕ) : Type 0 where
  pub place : Option Attribute
  pub path : List ℕ
  pub bytes : AreBytes path
  pub is : camp_path ≡ place_path place path

-- a camp tree is the code of a git tree: it has the files of each entry, at paths of camp, and no other file
pub record EncodesTree (git : GitEntries) (files : Files) : Type 0 where
  pub each : (place : Option Attribute) (path : List ℕ) → AreBytes path → get files (place_path place path) ≡ option_and_then (place_lines place) (get git path)
  pub nothing_else : (camp_path : List ℕ) (lines : Lines) → get files camp_path ≡ Some lines → IsEntryPlace camp_path
  pub paths : (camp_path : List ℕ) (lines : Lines) → get files camp_path ≡ Some lines → is_path camp_path ≡ true

-- the most lines of a file of camp
abbrev pub most_lines : ℕ
most_lines = 1_000_000

-- each file that camp stores for an entry is at a valid path of camp
abbrev pub HasCampPaths : List ℕ → GitFile → Type 0
HasCampPaths path file =
    (place : Option Attribute) (lines : Lines) → place_lines place file ≡ Some lines → is_path (place_path place path) ≡ true

-- a file that camp would store for an entry is at no valid path of camp
pub record LacksCampPath (path : List ℕ) (file : GitFile) : Type 0 where
  pub place : Option Attribute
  pub lines : Lines
  pub has : place_lines place file ≡ Some lines
  pub no_path : is_path (place_path place path) ≡ false

-- two trees differ at most at the path in camp of a path of git, and at those of its attributes
abbrev pub TouchesOnly : List ℕ → Files → Files → Type 0
TouchesOnly path old new =
    (camp_path : List ℕ) → ¬ (camp_path ≡ place_path None path) → ¬ (camp_path ≡ place_path (Some ModeLine) path)
    → ¬ (camp_path ≡ place_path (Some LacksNewline) path) → ¬ (camp_path ≡ place_path (Some Wrapped) path)
    → get new camp_path ≡ get old camp_path

-- Ok: the new tree has the entry, and all others are unchanged. An error says what camp can't store
abbrev pub PutsFile : List ℕ → GitFile → Files → Result Files EncodeFault → Type 0
PutsFile path file old (Ok new) =
    HasCampPaths path file × (length (stored_lines file.content) ≤ most_lines)
    × ((git : GitEntries) → EncodesTree git old → EncodesTree (insert git path file) new × TouchesOnly path old new)
PutsFile path file old (Err BadPath) = LacksCampPath path file
PutsFile path file old (Err TooManyLines) = most_lines < length (stored_lines file.content)
PutsFile path file old (Err Memory) = Unit {0}

-- the new tree has no entry at this path, and all others are unchanged
abbrev pub RemovesFile : List ℕ → Files → Files → Type 0
RemovesFile path old new =
    (git : GitEntries) → EncodesTree git old → EncodesTree (remove git path) new × TouchesOnly path old new

-- the file of a path of git or of an attribute of it, if its path is valid in camp
abbrev pub file_at : Files → Option Attribute → List ℕ → Option Lines
file_at files place path = if is_path (place_path place path) then get files (place_path place path) else None

-- a camp tree has the code of an entry at a path of git
pub record DecodesFile (files : Files) (path : List ℕ) (file : GitFile) : Type 0 where
  pub stored : Lines
  pub found : file_at files None path ≡ Some stored
  pub mode : file_at files (Some ModeLine) path ≡ mode_lines file.mode
  pub content : decoded stored (is_some (file_at files (Some Wrapped) path)) (is_some (file_at files (Some LacksNewline) path)) ≡ Some file.content

-- decoding the code of a git tree gives that tree: at each path its entry, or none
abbrev pub TreesComeBack : Type 0
TreesComeBack =
    (git : GitEntries) (files : Files) → EncodesTree git files
    → (path : List ℕ) → AreBytes path → (file : GitFile) → DecodesFile files path file ↔ (get git path ≡ Some file)
