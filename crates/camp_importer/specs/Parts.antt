-- The parts of a commit on its branch.
use Rattle.std.specs.Prelude.{◌≡◌, ◌≢◌, ◌<◌, ◌⊎◌, ℕ, ◌+◌, Bool, true, false, List, [], ◌∷◌, ◌++◌, length, None, Some, Result, Ok, Err}
use Rattle.std.specs.FinMap.{get}
use Rattle.std.specs.Global.{Vec}
use Rattle.std.specs.List.{AllByRecursion}
use Rattle.camp_base.specs.Bytes.{is_path}
use Rattle.camp_base.specs.Trees.{Files, Lines}
use Rattle.camp_branch.specs.Branches.{LeadsTo, has_patch, recorded}
use Rattle.camp_call.specs.Patches.{IsPatchSized}
use Rattle.camp_call.specs.declared.calls.Call.{Call}
use Rattle.camp_call.specs.declared.calls.Call.TheVariants as call
use Rattle.camp_call.specs.declared.replies.Refusal.{Refusal}
use Rattle.camp_catch.specs.declared.catches.Catch.{Catch}
use Rattle.camp_coding.specs.Attributes.{attribute_path}
use Rattle.camp_coding.specs.declared.attributes.Attribute.TheVariants.{EmptyCommit}
use Rattle.camp_import.specs.Parts.{part_name}
use Rattle.camp_import.specs.TreeChanges.{HasLongFile, LeadThrough}
use Rattle.camp_prim.specs.declared.primitives.Primitive.{Primitive}
use Rattle.camp_importer.specs.Calling.{ContinuesOn, ComesWithoutCall, IsReason, RepositoryBook, branch_in}
use Rattle.camp_importer.specs.declared.faults.Reason.{Reason}
use Rattle.camp_importer.specs.declared.faults.Reason.TheVariants.{TooManyLines, NoMark}

-- there is a branch
abbrev pub IsThere : RepositoryBook → List ℕ → Type 0
IsThere book branch = (catches : List Catch) × (branch_in book branch ≡ Some catches)

-- whether there is a branch
abbrev pub FindsBranch : RepositoryBook → List ℕ → (found : Bool) → Type 0
FindsBranch book branch true = IsThere book branch
FindsBranch book branch false = branch_in book branch ≡ None

-- a call records a part of a commit on a branch
pub record RecordsOnePart (name branch : List ℕ) (made : Call) (got : Refusal) : Type 0 where
  pub index : ℕ
  pub count : ℕ
  pub within : index < count
  pub changes : List Primitive
  pub is : made ≡ call.Record branch (part_name name index count) changes

-- the catches of the parts of a commit from an index on, each recorded under its name
abbrev pub recorded_parts : List ℕ → (index count : ℕ) → List (List Primitive) → List Catch
recorded_parts name index count [] = []
recorded_parts name index count (part ∷ parts) =
    recorded (part_name name index count) 1 part ++ recorded_parts name (index + 1) count parts

-- parts of a commit from an index on are appended to a branch
pub record RecordsFrom (name branch : List ℕ) (index count : ℕ) (parts : List (List Primitive)) (old new : RepositoryBook)
    : Type 0 where
  pub only : ContinuesOn branch old new
  pub appends :
      (ours : List Catch) → branch_in old branch ≡ Some ours
      → branch_in new branch ≡ Some (ours ++ recorded_parts name index count parts)

-- all parts of a commit are appended to a branch
abbrev pub RecordsParts : (name branch : List ℕ) → List (List Primitive) → RepositoryBook → RepositoryBook → Type 0
RecordsParts name branch parts old new = RecordsFrom name branch 0 (length parts) parts old new

-- there is a file at a path
abbrev pub HasFileAt : (path : List ℕ) → Files → Type 0
HasFileAt path tree = (lines : Lines) × (get tree path ≡ Some lines)

-- the path that marks an empty commit can't be used: it is not valid, or it has a file already
abbrev pub IsMarkTaken : (name : List ℕ) → Files → Type 0
IsMarkTaken name tree =
    (is_path (attribute_path EmptyCommit name) ≡ false) ⊎ HasFileAt (attribute_path EmptyCommit name) tree

-- why changes are not found
abbrev pub IsChangeReason : (Long Taken : Type 0) → Reason → Type 0
IsChangeReason Long Taken TooManyLines = Long
IsChangeReason Long Taken NoMark = Taken
IsChangeReason Long Taken other = ComesWithoutCall other

-- Ok: changes with this property; else a file is too long, a path is taken, or no call caused the reason
abbrev pub OrNoChanges : (Vec Primitive → Type 0) → (Long Taken : Type 0) → Result (Vec Primitive) Reason → Type 0
OrNoChanges Are Long Taken (Ok changes) = Are changes
OrNoChanges Are Long Taken (Err why) = IsChangeReason Long Taken why

-- changes, at least one, lead from a tree to another
pub record LeadsAtLeastOnce (old new : Files) (changes : Vec Primitive) : Type 0 where
  pub leads : LeadThrough changes.items old new
  pub some : changes.items ≢ []

-- changes, at least one, lead from the tree of a branch to another tree
pub record LeadsFrom (book : RepositoryBook) (branch : List ℕ) (tree : Files) (changes : Vec Primitive) : Type 0 where
  pub ours : List Catch
  pub was : branch_in book branch ≡ Some ours
  pub before : Files
  pub led : LeadsTo ours before
  pub leads : LeadsAtLeastOnce before tree changes

-- the tree of a branch or this tree has a file of too many lines
pub record HasLongTree (book : RepositoryBook) (branch : List ℕ) (tree : Files) : Type 0 where
  pub catches : List Catch
  pub was : branch_in book branch ≡ Some catches
  pub files : Files
  pub led : LeadsTo catches files
  pub long : HasLongFile files ⊎ HasLongFile tree

-- a branch leads to this tree, in which the path that marks an empty commit can't be used
pub record HasNoMark (book : RepositoryBook) (name branch : List ℕ) (tree : Files) : Type 0 where
  pub catches : List Catch
  pub was : branch_in book branch ≡ Some catches
  pub led : LeadsTo catches tree
  pub taken : IsMarkTaken name tree

-- why the tree of a commit is not recorded
abbrev pub IsRecordReason : (name branch : List ℕ) → (tree : Files) → Reason → RepositoryBook → Type 0
IsRecordReason name branch tree TooManyLines book = HasLongTree book branch tree
IsRecordReason name branch tree NoMark book = HasNoMark book name branch tree
IsRecordReason name branch tree other book = IsReason (RecordsOnePart name branch) other book

-- the parts recorded before the fault stay, no other branch has changed, and the reason is true
pub record RecordFails (name branch : List ℕ) (tree : Files) (old : RepositoryBook) (why : Reason) (new : RepositoryBook) : Type 0 where
  pub only : ContinuesOn branch old new
  pub reason : IsRecordReason name branch tree why new

-- a branch has the parts of a commit after what it had, the last of them under the name of the commit, and leads to a
-- tree
pub record RecordsTree (name branch : List ℕ) (tree : Files) (old new : RepositoryBook) : Type 0 where
  pub only : ContinuesOn branch old new
  pub ours : List Catch
  pub was : branch_in old branch ≡ Some ours
  pub parts : List (List Primitive)
  pub sized : AllByRecursion IsPatchSized parts
  pub becomes : branch_in new branch ≡ Some (ours ++ recorded_parts name 0 (length parts) parts)
  pub own : has_patch (ours ++ recorded_parts name 0 (length parts) parts) name ≡ true
  pub leads : LeadsTo (ours ++ recorded_parts name 0 (length parts) parts) tree

-- Ok: the tree is recorded; else a fault
abbrev pub RecordsTreeOr : (name branch : List ℕ) → (tree : Files) → RepositoryBook → Result (Unit {0}) Reason → RepositoryBook → Type 0
RecordsTreeOr name branch tree old (Ok done) new = RecordsTree name branch tree old new
RecordsTreeOr name branch tree old (Err why) new = RecordFails name branch tree old why new
