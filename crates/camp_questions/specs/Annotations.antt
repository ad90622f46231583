-- Which patch added each line of a file.
use Rattle.std.specs.Prelude.{◌≡◌, ℕ, ◌+◌, ◌-◌, ◌==◌, if◌then◌else◌, List, [], ◌∷◌, ◌++◌, length, take, drop, replicate, bytes_eq, Option, None, Some, Ok}
use Rattle.std.specs.FinMap.{FinMap, empty, get, insert}
use Rattle.std.specs.List.{slice_range, splice}
use Rattle.camp_base.specs.Trees.{Files, Lines}
use Rattle.camp_prim.specs.Hunks.{Edit}
use Rattle.camp_prim.specs.Labels.{key_cmp, key_of, label_of}
use Rattle.camp_prim.specs.declared.labels.Key.{Key}
use Rattle.camp_prim.specs.declared.named.Named.{Named}
use Rattle.camp_prim.specs.declared.primitives.Primitive.{Primitive}
use Rattle.camp_prim.specs.declared.primitives.Primitive.TheVariants.{Add, Remove, Hunk}
use Rattle.camp_catch.specs.Catches.{effect_of}
use Rattle.camp_catch.specs.declared.catches.Catch.{Catch}
use Rattle.camp_branch.specs.Branches.{LeadsTo, name_of}
use Rattle.camp_repo.specs.States.{Contents}
use Rattle.camp_questions.specs.Answers.{AnswerOf, OfBranch}
use Rattle.camp_questions.specs.CommonLines.{common_end, common_front}
use Rattle.camp_questions.specs.declared.annotations.Annotated.{Annotated}
use Rattle.camp_questions.specs.declared.annotations.Annotated.TheVariants.{File, NoFile}

-- the state of an annotation after some effects of a branch: for each line of a file the name of the patch that added
-- it, and for the absolute label of each hunk the names of the lines that it removed
pub record Known : Type 0 where
  pub names : List (List ℕ)
  pub taken : FinMap key_cmp (List (List ℕ))

-- the state before the first effect: no line and no hunk has names
abbrev pub nothing_known : Known
nothing_known = record { names = []; taken = empty }

-- the names that a hunk gives to its new lines: the lines that its two sides have in common at the start and, in what
-- remains, at the end keep their names; all others get the name of the patch
abbrev pub own_names : List (List ℕ) → List ℕ → Edit → List (List ℕ)
own_names gone name hunk =
    let front = common_front hunk.old hunk.new in
    let end = common_end (drop front hunk.old) (drop front hunk.new) in
    take front gone ++ replicate (length hunk.new - front - end) name ++ drop (length gone - end) gone

-- the names of the new lines of a hunk: the names of the lines that its inverse has removed, if there are as many; else
-- the names that the hunk gives
abbrev pub new_line_names : Option (List (List ℕ)) → List (List ℕ) → ℕ → List (List ℕ)
new_line_names None own count = own
new_line_names (Some taken) own count = if length taken == count then taken else own

-- the state after a hunk of the file: the new lines with their names replace the old ones, whose names are stored
-- under the absolute label of the hunk
abbrev pub known_after_hunk : List ℕ → Key → Edit → Known → Known
known_after_hunk name key hunk known =
    let from = hunk.line - 1 in
    let to = from + length hunk.old in
    let gone = slice_range known.names from to in
    record {
      names =
          splice known.names from to (new_line_names (get known.taken key) (own_names gone name hunk) (length hunk.new));
      taken = insert known.taken key gone;
    }

-- the state after a change, in an annotation of the file of this path: only hunks of that file change it
abbrev pub known_after_change : List ℕ → List ℕ → Key → Primitive → Known → Known
known_after_change path name key (Add other) known = known
known_after_change path name key (Remove other) known = known
known_after_change path name key (Hunk hunk) known =
    if bytes_eq hunk.path path then known_after_hunk name key hunk known else known

-- the state after an effect of a patch, primitive by primitive
abbrev pub known_after_all : List ℕ → List ℕ → List Named → Known → Known
known_after_all path name [] known = known
known_after_all path name (p ∷ s) known =
    known_after_all path name s (known_after_change path name (key_of (label_of p)) p.prim known)

-- the state after catches, one after the other
abbrev pub known_after_catches : List ℕ → List Catch → Known → Known
known_after_catches path [] known = known
known_after_catches path (k ∷ ks) known =
    known_after_catches path ks (known_after_all path (name_of k) (effect_of k) known)

-- for each line of the file of a path, the name of the patch of a branch that added it
abbrev pub names_of_lines : List ℕ → List Catch → List (List ℕ)
names_of_lines path branch = (known_after_catches path branch nothing_known).names

-- the answer for a path that has these lines, or no file
abbrev pub annotated : Option Lines → List (List ℕ) → Annotated
annotated None names = NoFile
annotated (Some lines) names = File lines names

-- the answer for a path of a branch: the lines that its tree has there, with their names
abbrev pub Annotates : List Catch → List ℕ → Annotated → Type 0
Annotates branch path told =
    (tree : Files) × LeadsTo branch tree × (told ≡ annotated (get tree path) (names_of_lines path branch))

-- the question which patch added each line of a path
abbrev pub AreAnnotated : Contents → List ℕ → List ℕ → AnswerOf Annotated → Type 0
AreAnnotated state branch path =
    OfBranch state branch (λ catches answer. (told : Annotated) × (answer ≡ Ok told) × Annotates catches path told)
