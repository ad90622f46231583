-- The law of imports.
use Rattle.std.specs.Prelude.{◌≡◌, ℕ, true, List, take, None, Some, Ok}
use Rattle.camp_branch.specs.Branches.{LeadsTo, first_lacked, has_patch}
use Rattle.camp_catch.specs.declared.catches.Catch.{Catch}
use Rattle.camp_import.specs.declared.commits.Commit.{Commit}
use Rattle.camp_object.specs.Books.{IsEarlier}
use Rattle.camp_importer.specs.Calling.{RepositoryBook, branch_in}
use Rattle.camp_importer.specs.Commits.{ImportsCommit}
use Rattle.camp_importer.specs.Moments.{AreMoments}
use Rattle.camp_importer.specs.declared.importing.Imported.{Imported}
use Rattle.camp_importer.specs.declared.moments.Moments.{Moments}
use Rattle.camp_importer.specs.declared.places.Place.{Place}

-- at a moment of a book a branch led to the tree of a commit, and had its patch and that of its first parent
pub record IsHeld (commit : Commit) (book : RepositoryBook) : Type 0 where
  pub moment : RepositoryBook
  pub earlier : IsEarlier moment book
  pub branch : List ℕ
  pub catches : List Catch
  pub was : branch_in moment branch ≡ Some catches
  pub leads : LeadsTo catches commit.tree
  pub own : has_patch catches commit.id ≡ true
  pub parents : first_lacked catches (take 1 commit.parents.items) ≡ None

-- a commit that is imported is held, if the moments are those of an earlier state of the book
abbrev pub ImportedCommitsAreHeld : Type 0
ImportedCommitsAreHeld =
    (commit : Commit) (place : Place) (moments : Moments) (earlier old : RepositoryBook) (imported : Imported) (new : RepositoryBook)
    → AreMoments earlier moments → IsEarlier earlier old → ImportsCommit commit place moments old (Ok imported) new → IsHeld commit new
