-- What a state stores about common prefixes of its branches.
use Rattle.std.specs.Prelude.{◌≡◌, List, Some, map, slice_get}
use Rattle.std.specs.List.{AllByRecursion}
use Rattle.camp_catch.specs.declared.catches.Catch.{Catch}
use Rattle.camp_branch.specs.Agreeing.{Agree}
use Rattle.camp_repo.specs.States.{Branches}
use Rattle.camp_repo.specs.declared.beginnings.KnownBeginning.{KnownBeginning}

-- the catches of each branch, in order of creation
abbrev pub catches_in : Branches → List (List Catch)
catches_in branches = map (λ branch. branch.1) branches

-- a stored pair is right: the branches at its two indexes exist, and their prefixes of the stored length agree
pub record AgreesIn (branches : List (List Catch)) (known : KnownBeginning) : Type 0 where
  pub theirs : List Catch
  pub ours : List Catch
  pub from_is : slice_get branches known.from ≡ Some theirs
  pub to_is : slice_get branches known.to ≡ Some ours
  pub agree : Agree theirs ours known.long

-- all stored pairs are right
abbrev pub AllHold : Branches → List KnownBeginning → Type 0
AllHold branches known = AllByRecursion (AgreesIn (catches_in branches)) known
