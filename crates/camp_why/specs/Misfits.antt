-- Why a change does not apply to a tree.
use Rattle.std.specs.Prelude.{◌≡◌, ◌≢◌, ◌<◌, ◌+◌, ◌-◌, ℕ, suc, nat_lt, Bool, true, false, List, [], ◌∷◌, length, drop, slice_get, Option, None, Some, bytes_eq, if◌then◌else◌}
use Rattle.std.specs.FinMap.{get}
use Rattle.camp_base.specs.Trees.{Files, Lines}
use Rattle.camp_prim.specs.Hunks.{Edit}
use Rattle.camp_prim.specs.Commuting.{path_of}
use Rattle.camp_prim.specs.declared.primitives.Primitive.{Primitive}
use Rattle.camp_prim.specs.declared.primitives.Primitive.TheVariants.{Add, Hunk, Remove}
use Rattle.camp_why.specs.declared.misfits.Misfit.{Misfit}
use Rattle.camp_why.specs.declared.misfits.Misfit.TheVariants.{EndsBefore, FileIsThere, HasLines, NoFile, OtherLine}

-- ---- the reported reason

-- why a file can't be added, given what is at its path; none if it can
abbrev pub add_misfit : Option Lines → Option Misfit
add_misfit None = None
add_misfit (Some lines) = Some FileIsThere

-- why a file can't be removed, given what is at its path; none if it can
abbrev pub remove_misfit : Option Lines → Option Misfit
remove_misfit None = Some NoFile
remove_misfit (Some []) = None
remove_misfit (Some (line ∷ lines)) = Some (HasLines (length (line ∷ lines)))

-- the first line that differs from the old line of an edit, counted from a number; none if no line does
abbrev pub other_line : ℕ → Lines → Lines → Option Misfit
other_line at [] lines = None
other_line at (expected ∷ old) [] = None
other_line at (expected ∷ old) (actual ∷ lines) =
    if bytes_eq actual expected then other_line (suc at) old lines else Some (OtherLine at actual expected)

-- the first old line past the end of a file of this length; none if the file is long enough
abbrev pub lacking : Edit → ℕ → Option (List ℕ)
lacking hunk has = slice_get hunk.old (has - (hunk.line - 1))

-- the line number, counted from 1, that this old line would have
abbrev pub lacking_at : Edit → ℕ → ℕ
lacking_at hunk has = suc (hunk.line - 1 + (has - (hunk.line - 1)))

-- the reason if an edit reaches past the end of a file with `has` lines; else none
abbrev pub ends_before : Edit → ℕ → Option Misfit
ends_before hunk has =
    if nat_lt has (hunk.line - 1 + length hunk.old)
    then Some (EndsBefore has (hunk.line - 1 + length hunk.old) (lacking_at hunk has) (lacking hunk has)) else None

-- the first reason, if there is one, else the second
abbrev pub misfit_or : Option Misfit → Option Misfit → Option Misfit
misfit_or None second = second
misfit_or (Some why) second = Some why

-- why an edit does not apply to these lines of a file: a line differs, or else the file ends too early
abbrev pub lines_misfit : Edit → Lines → Option Misfit
lines_misfit hunk lines =
    misfit_or (other_line hunk.line hunk.old (drop (hunk.line - 1) lines)) (ends_before hunk (length lines))

-- why an edit does not apply, given what is at its path
abbrev pub edit_misfit : Edit → Option Lines → Option Misfit
edit_misfit hunk None = Some NoFile
edit_misfit hunk (Some lines) = lines_misfit hunk lines

-- why a change does not apply to a tree; none if it does
abbrev pub find_misfit : Primitive → Files → Option Misfit
find_misfit (Add path) tree = add_misfit (get tree path)
find_misfit (Remove path) tree = remove_misfit (get tree path)
find_misfit (Hunk hunk) tree = edit_misfit hunk (get tree hunk.path)

-- ---- the meaning of a reason

-- a change needs a file to exist
abbrev pub wants_file : Primitive → Bool
wants_file (Add path) = false
wants_file (Remove path) = true
wants_file (Hunk hunk) = true

-- a change adds a file at a path that has one
pub record AddsAgain (change : Primitive) (tree : Files) : Type 0 where
  pub path : List ℕ
  pub adds : change ≡ Add path
  pub lines : Lines
  pub found : get tree path ≡ Some lines

-- a change removes or edits a file at a path that has none
pub record ChangesNone (change : Primitive) (tree : Files) : Type 0 where
  pub wants : wants_file change ≡ true
  pub absent : get tree (path_of change) ≡ None

-- a change removes a file that has this number of lines
pub record RemovesLines (change : Primitive) (tree : Files) (count : ℕ) : Type 0 where
  pub path : List ℕ
  pub removes : change ≡ Remove path
  pub lines : Lines
  pub found : get tree path ≡ Some lines
  pub counts : count ≡ length lines
  pub some : count ≢ 0

-- a change edits a file that has these lines
pub record Edits (change : Primitive) (tree : Files) (hunk : Edit) (lines : Lines) : Type 0 where
  pub edits : change ≡ Hunk hunk
  pub found : get tree hunk.path ≡ Some lines

-- the first `count` old lines of an edit are those of the file, as far as the file has any there
abbrev pub AreInFile : Edit → Lines → ℕ → Type 0
AreInFile hunk lines count =
    (at : ℕ) (actual expected : List ℕ) → at < count → slice_get hunk.old at ≡ Some expected →
    slice_get lines (hunk.line - 1 + at) ≡ Some actual → actual ≡ expected

-- an edit needs a file of at least `wants` lines, and the file has only `has`; up to the end of the file the edit's old
-- lines are the file's; `lacks` is the first old line past the end, and would be line `at`, counted from 1
pub record ReachesBehind (change : Primitive) (tree : Files) (has wants at : ℕ) (lacks : Option (List ℕ)) : Type 0 where
  pub hunk : Edit
  pub lines : Lines
  pub edits : Edits change tree hunk lines
  pub counts : has ≡ length lines
  pub reaches : wants ≡ hunk.line - 1 + length hunk.old
  pub later : has < wants
  pub alike : AreInFile hunk lines (length hunk.old)
  pub is_lacked : lacks ≡ slice_get hunk.old (length lines - (hunk.line - 1))
  pub is_at : at ≡ suc (hunk.line - 1 + (length lines - (hunk.line - 1)))

-- the first line that differs from the old lines of an edit is at this line number, counted from 1
pub record MeetsOther (change : Primitive) (tree : Files) (at : ℕ) (actual expected : List ℕ) : Type 0 where
  pub hunk : Edit
  pub lines : Lines
  pub edits : Edits change tree hunk lines
  pub before : ℕ
  pub is_at : at ≡ hunk.line + before
  pub is_expected : slice_get hunk.old before ≡ Some expected
  pub is_there : slice_get lines (hunk.line - 1 + before) ≡ Some actual
  pub other : actual ≢ expected
  pub alike : AreInFile hunk lines before

-- a change does not apply to a tree, and this is why
abbrev pub IsMisfit : Primitive → Files → Misfit → Type 0
IsMisfit change tree FileIsThere = AddsAgain change tree
IsMisfit change tree NoFile = ChangesNone change tree
IsMisfit change tree (HasLines count) = RemovesLines change tree count
IsMisfit change tree (EndsBefore has wants at lacks) = ReachesBehind change tree has wants at lacks
IsMisfit change tree (OtherLine at actual expected) = MeetsOther change tree at actual expected
