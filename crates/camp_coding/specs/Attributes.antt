-- Attributes of git's files, stored at paths of camp.
use Rattle.std.specs.Prelude.{◌≡◌, ℕ, List, ◌++◌, codes, true, false, Result, Ok, Err}
use Rattle.camp_base.specs.Bytes.{is_path}
use Rattle.camp_base.specs.declared.faults.BaseFault.{BaseFault}
use Rattle.camp_base.specs.declared.faults.BaseFault.TheVariants.{BadLine, BadName, BadPath, Memory}
use Rattle.camp_coding.specs.GitPaths.{AreBytes, escaped_path}
use Rattle.camp_coding.specs.declared.attributes.Attribute.{Attribute}
use Rattle.camp_coding.specs.declared.attributes.Attribute.TheVariants.{ModeLine, LacksNewline, Wrapped, EmptyCommit}

-- the folder in which an attribute is stored
abbrev pub attribute_folder : Attribute → List ℕ
attribute_folder ModeLine = codes "%m/"
attribute_folder LacksNewline = codes "%n/"
attribute_folder Wrapped = codes "%w/"
attribute_folder EmptyCommit = codes "%e/"

-- the path in camp of an attribute of a path of git
abbrev pub attribute_path : Attribute → List ℕ → List ℕ
attribute_path attribute path = attribute_folder attribute ++ escaped_path path

-- no path of git, escaped, is the path of an attribute
abbrev pub AttributePathsAreFree : Type 0
AttributePathsAreFree =
    (attribute : Attribute) (path other : List ℕ) → ¬ (attribute_path attribute path ≡ escaped_path other)

-- if the paths of two attributes are equal, so are their kinds and their paths of git
abbrev pub AttributePathsDiffer : Type 0
AttributePathsDiffer =
    (attribute other : Attribute) (path other_path : List ℕ) → AreBytes path → AreBytes other_path
    → attribute_path attribute path ≡ attribute_path other other_path
    → (attribute_folder attribute ≡ attribute_folder other) × (path ≡ other_path)

-- the result is the path that the bytes are, `BadPath` if they are none, or out of memory
abbrev pub MakesPath : List ℕ → Result (List ℕ) BaseFault → Type 0
MakesPath bytes (Ok path) = (path ≡ bytes) × (is_path bytes ≡ true)
MakesPath bytes (Err BadPath) = is_path bytes ≡ false
MakesPath bytes (Err Memory) = Unit {0}
MakesPath bytes (Err BadName) = ⊥
MakesPath bytes (Err BadLine) = ⊥
