-- Copies of a branch.
use Rattle.std.specs.Prelude.{◌≡◌, ℕ, List, [], ◌∷◌, ◌++◌, Result, Ok, Err}
use Rattle.camp_importer.specs.Calling.{FailsOn, RepositoryBook}
use Rattle.camp_importer.specs.Steps.{CopiesFirst, StartsFrom}
use Rattle.camp_importer.specs.declared.faults.Reason.{Reason}

-- branches are made one after the other, each as a copy of one branch
abbrev pub CopiesEach : (from : List ℕ) → (copies : List (List ℕ)) → RepositoryBook → RepositoryBook → Type 0
CopiesEach from [] old new = new ≡ old
CopiesEach from (copy ∷ copies) old new = (between : RepositoryBook) × StartsFrom from copy old between × CopiesEach from copies between new

-- copies are made up to the first that can't be made
pub record StopsCopying (from : List ℕ) (copies : List (List ℕ)) (old : RepositoryBook) (why : Reason) (new : RepositoryBook) : Type 0 where
  pub front : List (List ℕ)
  pub copy : List ℕ
  pub rest : List (List ℕ)
  pub is : copies ≡ front ++ copy ∷ rest
  pub between : RepositoryBook
  pub made : CopiesEach from front old between
  pub stops : FailsOn (CopiesFirst from copy) copy between why new

-- Ok: all copies are made; else those before the first that can't be made
abbrev pub CopiesEachOr : (from : List ℕ) → (copies : List (List ℕ)) → RepositoryBook → Result (Unit {0}) Reason → RepositoryBook → Type 0
CopiesEachOr from copies old (Ok done) new = CopiesEach from copies old new
CopiesEachOr from copies old (Err why) new = StopsCopying from copies old why new
