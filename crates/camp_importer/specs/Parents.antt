-- The patches of the parents of a commit.
use Rattle.std.specs.Prelude.{◌≡◌, ◌≢◌, ℕ, Bool, true, false, List, [], take, None, Some, Result, Ok, Err}
use Rattle.camp_branch.specs.Branches.{first_lacked}
use Rattle.camp_catch.specs.declared.catches.Catch.{Catch}
use Rattle.camp_importer.specs.Calling.{RepositoryBook, branch_in}
use Rattle.camp_importer.specs.declared.faults.Reason.{Reason}
use Rattle.camp_importer.specs.declared.faults.Reason.TheVariants.{LacksParent, NotEmpty}

-- the parents whose patches a branch has to have: all, or the first one if a pull was blocked
abbrev pub parents_to_have : (pulled : Bool) → List (List ℕ) → List (List ℕ)
parents_to_have true parents = parents
parents_to_have false parents = take 1 parents

-- catches have the patches of the parents of a commit; without parents there are none
pub record HasParents (parents : List (List ℕ)) (pulled : Bool) (catches : List Catch) : Type 0 where
  pub has : first_lacked catches (parents_to_have pulled parents) ≡ None
  pub root : parents ≡ [] → catches ≡ []

-- why catches fail the check for the patches of a commit's parents
abbrev pub LacksParents : List (List ℕ) → (pulled : Bool) → List Catch → Reason → Type 0
LacksParents parents pulled catches (LacksParent name) = first_lacked catches (parents_to_have pulled parents) ≡ Some name
LacksParents parents pulled catches NotEmpty = (parents ≡ []) × (catches ≢ [])
LacksParents parents pulled catches other = ⊥

-- Ok: catches have the patches of the parents; else one is lacking, or there should be none
abbrev pub ChecksParentsIn : List Catch → (parents : List (List ℕ)) → (pulled : Bool) → Result (Unit {0}) Reason → Type 0
ChecksParentsIn catches parents pulled (Ok done) = HasParents parents pulled catches
ChecksParentsIn catches parents pulled (Err why) = LacksParents parents pulled catches why

-- the same check for the catches of a branch
abbrev pub ChecksParents : RepositoryBook → (branch : List ℕ) → (parents : List (List ℕ)) → (pulled : Bool) → Result (Unit {0}) Reason → Type 0
ChecksParents book branch parents pulled result =
    (catches : List Catch) → branch_in book branch ≡ Some catches → ChecksParentsIn catches parents pulled result
