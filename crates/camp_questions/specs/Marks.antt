-- A file with the unresolved sides of its conflicts.
use Rattle.std.specs.Prelude.{◌≡◌, ℕ, Bool, ◌||◌, List, [], ◌∷◌, filter, bytes_eq, Option, None, Some, Ok, if◌then◌else◌}
use Rattle.std.specs.Cmp.Lexicographic.{pointwise}
use Rattle.std.specs.FinMap.{get}
use Rattle.std.specs.List.{list_any}
use Rattle.camp_base.specs.Trees.{Files, Lines}
use Rattle.camp_prim.specs.declared.named.Named.{Named}
use Rattle.camp_seq.specs.Running.{AppliesAll}
use Rattle.camp_ctx.specs.Contexts.{ContextedPatches}
use Rattle.camp_catch.specs.declared.catches.Catch.{Catch}
use Rattle.camp_branch.specs.Branches.{LeadsTo, names_of}
use Rattle.camp_repo.specs.States.{Contents}
use Rattle.camp_questions.specs.Answers.{AnswerOf, OfBranch}
use Rattle.camp_questions.specs.OpenConflicts.{AreUnresolvedAmong}
use Rattle.camp_questions.specs.MarkHunks.{File, with_marks}
use Rattle.camp_questions.specs.Sides.{AreSeen, IsSideAmong}
use Rattle.camp_questions.specs.declared.marking.Marked.{Marked}
use Rattle.camp_questions.specs.declared.marking.Marked.TheVariants as marked
use Rattle.camp_questions.specs.declared.marking.Version.{Version}

-- the version of a file that a patch would make: the file after the changes of its side
abbrev pub MakesVersion : ContextedPatches → Files → List ℕ → List ℕ → Option Lines → Type 0
MakesVersion seen tree path name made =
    (side : List Named) × (next : Files) × IsSideAmong seen name side × AppliesAll side tree next × (made ≡ get next path)

-- the list of versions, with the one of a further patch appended if it differs from the present file
abbrev pub with_made : Lines → List ℕ → Option Lines → List Version → List Version
with_made lines name None versions = versions
with_made lines name (Some made) versions =
    if pointwise bytes_eq lines made then versions else record { name = name; lines = made } ∷ versions

-- the versions that patches would make of a file, in the order of the patches
abbrev pub AreVersions : ContextedPatches → Files → List ℕ → Lines → List (List ℕ) → List Version → Type 0
AreVersions seen tree path lines [] versions = versions ≡ []
AreVersions seen tree path lines (name ∷ names) versions =
    (made : Option Lines) × (others : List Version) × MakesVersion seen tree path name made
    × AreVersions seen tree path lines names others × (versions ≡ with_made lines name made others)

-- a name is in one of these pairs
abbrev pub is_in_pair : List (List ℕ × List ℕ) → List ℕ → Bool
is_in_pair pairs name = list_any (λ pair. bytes_eq name pair.0 || bytes_eq name pair.1) pairs

-- the names of those patches of a branch that are in one of these pairs
abbrev pub names_in_pairs : List Catch → List (List ℕ × List ℕ) → List (List ℕ)
names_in_pairs branch pairs = filter (is_in_pair pairs) (names_of branch)

-- a file of a branch with the versions that its patches in unresolved conflicts would make of it
abbrev pub IsMarked : List Catch → Files → List ℕ → Lines → File → Type 0
IsMarked branch tree path lines file =
    (seen : ContextedPatches) × (pairs : List (List ℕ × List ℕ)) × (versions : List Version)
    × AreSeen branch seen × AreUnresolvedAmong branch seen pairs
    × AreVersions seen tree path lines (names_in_pairs branch pairs) versions × (file ≡ with_marks lines versions)

-- the answer for a path of a branch: the file with marks, or that there is no file
abbrev pub MarksAt : List Catch → Files → List ℕ → Option Lines → Marked → Type 0
MarksAt branch tree path None told = told ≡ marked.NoFile
MarksAt branch tree path (Some lines) told =
    (file : File) × IsMarked branch tree path lines file × (told ≡ marked.File file)

-- the question for a file with marks
abbrev pub AreMarked : Contents → List ℕ → List ℕ → AnswerOf Marked → Type 0
AreMarked state branch path =
    OfBranch state branch (λ catches answer.
    (told : Marked) × (answer ≡ Ok told)
    × ((tree : Files) × LeadsTo catches tree × MarksAt catches tree path (get tree path) told))
