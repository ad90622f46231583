-- What the opening of a store leaves on its disk.
use Rattle.std.specs.Prelude.{◌≡◌, ◌≤◌, ℕ, List, [], length}
use Rattle.camp_kept.specs.Accepting.{StoreContents}
use Rattle.camp_kept.specs.Persisting.{AreStoreTexts, AreTexts, LeavesCalls, max_untitled_len}
use Rattle.camp_repo.specs.Limits.{Bounds}
use Rattle.camp_store.specs.Logs.{PersistsTexts, disk_of}
use Rattle.camp_store.specs.declared.logs.Log.{Log}

-- an open log persists the texts of a store with the contents of these texts: those, or the title of a new store
pub record PersistsTitled {D : Type 0} (seen : D → List ℕ) (may_leave : D → List ℕ → Type 0) (new : Bounds) (texts : List (List ℕ)) (log : Log D) : Type 0 where
  pub all : List (List ℕ)
  pub persists : PersistsTexts seen may_leave all log
  pub are : (stored : StoreContents) → AreTexts new texts stored → AreStoreTexts stored all

-- whatever a crash leaves on a disk decodes to the contents of these texts of a log, if the log persisted them and, if
-- there are none, its file had few bytes
abbrev pub LeavesTexts : {D : Type 0} → (D → List ℕ) → (D → List ℕ → Type 0) → Bounds → List (List ℕ) → Log D → D → Type 0
LeavesTexts seen may_leave new texts log disk =
    (stored : StoreContents) → AreTexts new texts stored → PersistsTexts seen may_leave texts log
    → (texts ≡ [] → length (seen (disk_of log)) ≤ max_untitled_len) → LeavesCalls seen may_leave new stored disk
