-- Commits one after the other.
use Rattle.std.specs.Prelude.{◌≡◌, List, [], ◌∷◌, ◌++◌, Result, Ok, Err}
use Rattle.camp_import.specs.declared.commits.Commit.{Commit}
use Rattle.camp_importer.specs.Calling.{RepositoryBook}
use Rattle.camp_importer.specs.Commits.{ImportsCommit}
use Rattle.camp_importer.specs.declared.faults.ImportFault.{ImportFault}
use Rattle.camp_importer.specs.declared.importing.Imported.{Imported}
use Rattle.camp_importer.specs.declared.moments.Moments.{Moments}
use Rattle.camp_importer.specs.declared.places.Place.{Place}

-- commits are imported one after the other
abbrev pub ImportsEach : Moments → List (Commit × Place) → RepositoryBook → RepositoryBook → Type 0
ImportsEach moments [] old new = new ≡ old
ImportsEach moments (planned ∷ commits) old new =
    (imported : Imported) × ((between : RepositoryBook) × ImportsCommit planned.0 planned.1 moments old (Ok imported) between × ImportsEach moments commits between new)

-- commits are imported one after the other, up to one that fails
pub record StopsAtCommit (moments : Moments) (commits : List (Commit × Place)) (old : RepositoryBook) (fault : ImportFault) (new : RepositoryBook) : Type 0 where
  pub front : List (Commit × Place)
  pub planned : Commit × Place
  pub rest : List (Commit × Place)
  pub is : commits ≡ front ++ planned ∷ rest
  pub between : RepositoryBook
  pub imports : ImportsEach moments front old between
  pub stops : ImportsCommit planned.0 planned.1 moments between (Err fault) new

-- Ok: all commits are imported; else those before one that fails
abbrev pub ImportsCommits : List (Commit × Place) → Moments → RepositoryBook → Result (Unit {0}) ImportFault → RepositoryBook → Type 0
ImportsCommits commits moments old (Ok done) new = ImportsEach moments commits old new
ImportsCommits commits moments old (Err fault) new = StopsAtCommit moments commits old fault new
