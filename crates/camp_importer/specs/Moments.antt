-- What a repository had at earlier moments of its history.
use Rattle.std.specs.Prelude.{◌≡◌, ℕ, true, List, Option, Some, is_some}
use Rattle.std.specs.Cmp.Lexicographic.{slice_cmp}
use Rattle.std.specs.FinMap.{FinMap, get, insert}
use Rattle.std.specs.List.{AllByRecursion}
use Rattle.std.specs.Ordering.{nat_cmp}
use Rattle.camp_branch.specs.Branches.{has_patch}
use Rattle.camp_call.specs.Patches.{IsPatchSized}
use Rattle.camp_call.specs.declared.calls.Call.{Call}
use Rattle.camp_call.specs.declared.calls.Call.TheVariants.{Record}
use Rattle.camp_catch.specs.declared.catches.Catch.{Catch}
use Rattle.camp_object.specs.Books.{IsEarlier}
use Rattle.camp_repo.specs.Objects.{next_of}
use Rattle.camp_repo.specs.States.{Contents, catches_of}
use Rattle.camp_repo.specs.Steps.{step}
use Rattle.camp_share.specs.Maps.{map_of}
use Rattle.camp_importer.specs.Calling.{RepositoryBook, branch_in}
use Rattle.camp_importer.specs.declared.moments.Moments.{Moments}

-- at a moment of a book a branch had these catches, with a patch of this name
pub record IsMoment (book : RepositoryBook) (name : List ℕ) (catches : List Catch) : Type 0 where
  pub moment : RepositoryBook
  pub earlier : IsEarlier moment book
  pub branch : List ℕ
  pub was : branch_in moment branch ≡ Some catches
  pub has : has_patch catches name ≡ true

-- the catches of branches, by the names of patches
abbrev pub KnownMoments : Type 0
KnownMoments = List (List ℕ × List Catch)

abbrev pub known_map : KnownMoments → FinMap (slice_cmp nat_cmp) (List Catch)
known_map known = map_of (slice_cmp nat_cmp) known

-- the catches that are known by the name of a patch
abbrev pub moment_of : KnownMoments → (name : List ℕ) → Option (List Catch)
moment_of known name = get (known_map known) name

-- catches are known for the patch of a call that records one
abbrev pub IsKnown : KnownMoments → Call → Type 0
IsKnown known (Record branch name changes) = is_some (moment_of known name) ≡ true
IsKnown known other = Unit {0}

-- the moments of a book: one for each patch that was recorded
pub record AreMoments (book : RepositoryBook) (moments : Moments) : Type 0 where
  pub each : (name : List ℕ) (catches : List Catch) → moment_of moments.branches name ≡ Some catches → IsMoment book name catches
  pub all : AllByRecursion (λ entry. IsKnown moments.branches entry.1) book.calls

-- a state is the next one after a call, if the call is accepted
abbrev pub IsNextState : Contents → Call → Contents → Type 0
IsNextState state call next = (after : Contents) → next_of (step state call) ≡ Some after → next ≡ after

-- what is known after a call that led to a state: if it recorded a patch, its branch is added under the patch's name
abbrev pub KeepsMoment : Contents → Call → (old new : KnownMoments) → Type 0
KeepsMoment state (Record branch name changes) old new =
    IsPatchSized changes × ((catches : List Catch) → catches_of state.branches branch ≡ Some catches → known_map new ≡ insert (known_map old) name catches)
KeepsMoment state other old new = new ≡ old
