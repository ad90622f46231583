-- What the commands of a stream have defined.
use Rattle.std.specs.Prelude.{◌≡◌, ◌⊎◌, ℕ, ◌==◌, if◌then◌else◌, List, [], ◌∷◌, Option, None, Some, option_and_then, refl}
use Rattle.std.proofs.Common.{inl, inr}
use Rattle.std.specs.Ordering.{nat_cmp}
use Rattle.std.specs.Cmp.Lexicographic.{slice_cmp}
use Rattle.std.specs.Coded.{Coded, code_by, coded×, coded⊎, coded_list, coded_option, coded_ℕ}
use Rattle.std.specs.FinMap.{FinMap, code, get, insert}
use Rattle.camp_base.specs.Bytes.{is_name}
use Rattle.camp_base.specs.Trees.{Files}
use Rattle.camp_commits.specs.declared.objects.MarkedObject.{MarkedObject}
use Rattle.camp_commits.specs.declared.objects.MarkedObject.TheVariants.{Blob, Commit}
use Rattle.camp_commits.specs.declared.objects.ReferencePosition.{ReferencePosition}
use Rattle.camp_commits.specs.declared.objects.ReferencePosition.TheVariants.{Unborn, At}

-- the objects of marks, by the digits of the marks
abbrev pub Marks : Type 0
Marks = FinMap (slice_cmp nat_cmp) MarkedObject

-- the trees of commits, by their ids
abbrev pub CommitTrees : Type 0
CommitTrees = FinMap (slice_cmp nat_cmp) Files

-- the positions of references, each by its path in camp
abbrev pub References : Type 0
References = FinMap (slice_cmp nat_cmp) ReferencePosition

-- what the commands of a stream have defined
pub record Objects : Type 0 where
  pub marks : Marks
  pub trees : CommitTrees
  pub references : References

-- the object of a mark as a text: the content of a blob on the left, the id of a commit on the right
abbrev pub as_either : MarkedObject → List ℕ ⊎ List ℕ
as_either (Blob content) = inl content
as_either (Commit id) = inr id

-- the object of a mark from a text: a blob from the left, a commit from the right
abbrev pub from_either : List ℕ ⊎ List ℕ → MarkedObject
from_either (inl content) = Blob content
from_either (inr id) = Commit id

-- the object of a mark, converted to a text and back, is the same
abbrev pub either_back : (object : MarkedObject) → from_either (as_either object) ≡ object
either_back (Blob content) = refl
either_back (Commit id) = refl

-- the encoding of a mark's object
abbrev pub code_of_marked : Coded MarkedObject
code_of_marked =
    code_by (List ℕ ⊎ List ℕ) (coded⊎ (coded_list coded_ℕ) (coded_list coded_ℕ)) as_either from_either either_back

-- the position of a reference as the id of its commit; none if it is unborn
abbrev pub as_option : ReferencePosition → Option (List ℕ)
as_option Unborn = None
as_option (At id) = Some id

-- the position of a reference from the id of its commit; unborn without one
abbrev pub from_option : Option (List ℕ) → ReferencePosition
from_option None = Unborn
from_option (Some id) = At id

-- where a reference stands comes back
abbrev pub option_back : (position : ReferencePosition) → from_option (as_option position) ≡ position
option_back Unborn = refl
option_back (At id) = refl

-- where a reference stands, as data
abbrev pub code_of_positions : Coded ReferencePosition
code_of_positions = code_by (Option (List ℕ)) (coded_option (coded_list coded_ℕ)) as_option from_option option_back

-- a tree, as data
abbrev pub files_code : Coded Files
files_code = code (coded_list coded_ℕ) (coded_list (coded_list coded_ℕ))

-- what commands have defined, as data
abbrev pub objects_code : Coded Objects
objects_code =
    code_by (Marks × (CommitTrees × References))
    (coded× (code (coded_list coded_ℕ) code_of_marked) (coded× (code (coded_list coded_ℕ) files_code) (code (coded_list coded_ℕ) code_of_positions)))
    (λ objects. (objects.marks, (objects.trees, objects.references)))
    (λ parts. record { marks = parts.0; trees = parts.1.0; references = parts.1.1 }) (λ _. refl)

-- the definitions with the tree of one more commit
abbrev pub with_tree : Objects → List ℕ → Files → Objects
with_tree objects id tree = record objects { trees = insert objects.trees id tree }

-- the definitions with the object of one more mark
abbrev pub with_marked : Objects → List ℕ → MarkedObject → Objects
with_marked objects mark object = record objects { marks = insert objects.marks mark object }

-- the definitions with this position of a reference
abbrev pub with_reference : Objects → List ℕ → ReferencePosition → Objects
with_reference objects key position = record objects { references = insert objects.references key position }

-- a text, if it is a name
abbrev pub name_if : List ℕ → Option (List ℕ)
name_if text = if is_name text then Some text else None

-- the digits of a mark: what follows `:`, if it is a name
abbrev pub mark_name : List ℕ → Option (List ℕ)
mark_name [] = None
mark_name (colon ∷ digits) = if colon == 58 then name_if digits else None

-- what a mark stands for
abbrev pub object_at : Marks → List ℕ → Option MarkedObject
object_at marks text = option_and_then (λ mark. get marks mark) (mark_name text)
