-- Dependencies and dependents of patches in a branch.
use Rattle.std.specs.Prelude.{◌≡◌, ℕ, List, [], ◌∷◌, ◌++◌, filter, Ok, Err}
use Rattle.camp_prim.specs.declared.labels.Key.{Key}
use Rattle.camp_catch.specs.Arranging.{Arrange, ArrangeIsBlocked}
use Rattle.camp_catch.specs.declared.catches.Catch.{Catch}
use Rattle.camp_branch.specs.Branches.{is_among, names_of}
use Rattle.camp_branch.specs.Obliterating.{ObliterateGives}
use Rattle.camp_branch.specs.declared.faults.Blocked.TheVariants.{Depends}
use Rattle.camp_repo.specs.States.{Contents}
use Rattle.camp_questions.specs.Answers.{AnswerOf, OfBranch, OfPatches}

-- the patches of these names can be moved to the front of a branch
abbrev pub CanMoveToFront : List Catch → List (List ℕ) → Type 0
CanMoveToFront branch names = (first : List Catch) × (rest : List Catch) × Arrange names branch first rest

-- the patches of these names can't be moved to the front of a branch: one of them is blocked by the patch of this
-- name
abbrev pub AreBlockedBy : List Catch → List (List ℕ) → List ℕ → Type 0
AreBlockedBy branch names name = (patch : Key) × (on : Key) × ArrangeIsBlocked names branch patch on × (name ≡ on.name)

-- the patches of these names can be taken out of a branch: no other patch depends on one of them
abbrev pub CanBeTakenOut : List Catch → List (List ℕ) → Type 0
CanBeTakenOut branch names = (left : List Catch) × ObliterateGives branch names (Ok left)

-- the patches of these names can't be taken out of a branch: the patch of this name depends on one of them
abbrev pub DependsOnTakenOut : List Catch → List (List ℕ) → List ℕ → Type 0
DependsOnTakenOut branch names name = (on : List ℕ) × ObliterateGives branch names (Err (Depends name on))

-- names are added to a list one by one until `Done` holds of the list; each name that is added is one that `Stops`
-- relates to the list before it
abbrev pub AreAdded :
    (List (List ℕ) → Type 0) → (List (List ℕ) → List ℕ → Type 0) → List (List ℕ) → List (List ℕ) → Type 0
AreAdded Done Stops names [] = Done names
AreAdded Done Stops names (name ∷ added) = Stops names name × AreAdded Done Stops (names ++ name ∷ []) added

-- the names of the patches of a branch that are among these names, in the order of the branch
abbrev pub in_order : List Catch → List (List ℕ) → List (List ℕ)
in_order branch names = filter (is_among names) (names_of branch)

-- `grown` has the names and those that are added until `Done` holds, in the order of a branch
abbrev pub AreGrown :
    List Catch → (List (List ℕ) → Type 0) → (List (List ℕ) → List ℕ → Type 0) → List (List ℕ) → List (List ℕ) → Type 0
AreGrown branch Done Stops names grown =
    (added : List (List ℕ)) × AreAdded Done Stops names added × (grown ≡ in_order branch (names ++ added))

-- the dependencies of these names in a branch: while they can't be moved to its front, the name of the patch that
-- blocks them is added
abbrev pub Needs : List Catch → List (List ℕ) → List (List ℕ) → Type 0
Needs branch names needed = AreGrown branch (CanMoveToFront branch) (AreBlockedBy branch) names needed

-- the dependents of these names in a branch: while they can't be taken out, the name of a patch that depends on one
-- of them is added
abbrev pub HeldBy : List Catch → List (List ℕ) → List (List ℕ) → Type 0
HeldBy branch names held = AreGrown branch (CanBeTakenOut branch) (DependsOnTakenOut branch) names held

-- a question about patches of a branch, whose answer is related to their names; refused if the branch lacks one of the
-- patches
abbrev pub OfNames :
    (List Catch → List (List ℕ) → List (List ℕ) → Type 0) → Contents → List ℕ → List (List ℕ)
    → AnswerOf (List (List ℕ)) → Type 0
OfNames Relates state branch names =
    OfBranch state branch (λ catches.
    OfPatches catches names (λ answer. (related : List (List ℕ)) × (answer ≡ Ok related) × Relates catches names related))

-- the dependencies of these names in a branch
abbrev pub AreNeeded : Contents → List ℕ → List (List ℕ) → AnswerOf (List (List ℕ)) → Type 0
AreNeeded = OfNames Needs

-- the names that must be taken out of a branch together with these
abbrev pub AreHeldBy : Contents → List ℕ → List (List ℕ) → AnswerOf (List (List ℕ)) → Type 0
AreHeldBy = OfNames HeldBy
