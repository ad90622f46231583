-- When a commit is imported, and why not.
use Rattle.std.specs.Prelude.{◌≡◌, ◌⊎◌, Bool, false, List, Option, None, Some, Result, Ok, Err}
use Rattle.camp_branch.specs.Branches.{LeadsTo, first_lacked}
use Rattle.camp_catch.specs.declared.catches.Catch.{Catch}
use Rattle.camp_import.specs.declared.commits.Commit.{Commit}
use Rattle.camp_importer.specs.Calling.{FailsOn, RepositoryBook}
use Rattle.camp_importer.specs.Copies.{CopiesEach, StopsCopying}
use Rattle.camp_importer.specs.Moments.{moment_of}
use Rattle.camp_importer.specs.Parents.{HasParents, LacksParents, parents_to_have}
use Rattle.camp_importer.specs.Parts.{RecordFails, RecordsTree}
use Rattle.camp_importer.specs.Steps.{JoinsBy, JoinsParents}
use Rattle.camp_importer.specs.declared.faults.ImportFault.{ImportFault}
use Rattle.camp_importer.specs.declared.faults.Reason.{Reason}
use Rattle.camp_importer.specs.declared.faults.Reason.TheVariants as reason
use Rattle.camp_importer.specs.declared.importing.Imported.{Imported}
use Rattle.camp_importer.specs.declared.importing.Imported.TheVariants.{PassedOver, Recorded}
use Rattle.camp_importer.specs.declared.moments.Moments.{Moments}
use Rattle.camp_importer.specs.declared.places.Place.{Place}

-- the branch of a commit gathers the patches of its parents
abbrev pub Joins : Commit → Place → (pulled : Bool) → RepositoryBook → RepositoryBook → Type 0
Joins commit place pulled old new = JoinsParents pulled place.first place.others.items place.branch old new

-- the branch of a commit gathers the patches of its parents, and has them; then those of the commit are recorded, and it
-- leads to the tree of the commit
pub record BringsIn (commit : Commit) (place : Place) (pulled : Bool) (old new : RepositoryBook) : Type 0 where
  pub between : RepositoryBook
  pub joins : Joins commit place pulled old between
  pub parents : HasParents commit.parents.items pulled joins.gathers.all
  pub records : RecordsTree commit.id place.branch commit.tree between new

-- the parents are joined, but the check for their patches fails
pub record StopsAtParents (commit : Commit) (place : Place) (old : RepositoryBook) (why : Reason) (new : RepositoryBook) : Type 0 where
  pub pulled : Bool
  pub joins : Joins commit place pulled old new
  pub lacks : LacksParents commit.parents.items pulled joins.gathers.all why

-- the parents are joined, but recording the tree fails
pub record StopsAtTree (commit : Commit) (place : Place) (old : RepositoryBook) (why : Reason) (new : RepositoryBook) : Type 0 where
  pub pulled : Bool
  pub between : RepositoryBook
  pub joins : Joins commit place pulled old between
  pub parents : HasParents commit.parents.items pulled joins.gathers.all
  pub fails : RecordFails commit.id place.branch commit.tree between why new

-- a commit is not brought in: joining its parents, the check for their patches, or recording its tree fails
abbrev pub StopsBringing : Commit → Place → RepositoryBook → Reason → RepositoryBook → Type 0
StopsBringing commit place old why new =
    FailsOn (JoinsBy place.first place.others.items place.branch) place.branch old why new
    ⊎ (StopsAtParents commit place old why new ⊎ StopsAtTree commit place old why new)

-- the result of a step; Ok has `pulled` for its value: whether no pull was blocked
abbrev pub with_pulled : (pulled : Bool) → Result (Unit {0}) Reason → Result Bool Reason
with_pulled pulled (Ok done) = Ok pulled
with_pulled pulled (Err why) = Err why

-- the result of an import that records a commit, or why it does not
abbrev pub as_recorded : Result Bool Reason → Result Imported Reason
as_recorded (Ok pulled) = Ok (Recorded pulled)
as_recorded (Err why) = Err why

-- Ok: the commit is brought in; else why it is not
abbrev pub BringsOr : Commit → Place → RepositoryBook → Result Bool Reason → RepositoryBook → Type 0
BringsOr commit place old (Ok pulled) new = BringsIn commit place pulled old new
BringsOr commit place old (Err why) new = StopsBringing commit place old why new

-- the branch of the first parent is copied, the commit is brought in, and its branch is copied
pub record RecordsCommit (commit : Commit) (place : Place) (pulled : Bool) (old new : RepositoryBook) : Type 0 where
  pub spared : RepositoryBook
  pub spares : CopiesEach place.first place.spares.items old spared
  pub brought : RepositoryBook
  pub brings : BringsIn commit place pulled spared brought
  pub copies : CopiesEach place.branch place.copies.items brought new

-- the branch of the first parent is copied, but the commit is not brought in
pub record StopsAfterSpares (commit : Commit) (place : Place) (old : RepositoryBook) (why : Reason) (new : RepositoryBook) : Type 0 where
  pub spared : RepositoryBook
  pub spares : CopiesEach place.first place.spares.items old spared
  pub stops : StopsBringing commit place spared why new

-- the commit is brought in, but its branch is not copied
pub record StopsAtCopies (commit : Commit) (place : Place) (old : RepositoryBook) (why : Reason) (new : RepositoryBook) : Type 0 where
  pub pulled : Bool
  pub spared : RepositoryBook
  pub spares : CopiesEach place.first place.spares.items old spared
  pub brought : RepositoryBook
  pub brings : BringsIn commit place pulled spared brought
  pub stops : StopsCopying place.branch place.copies.items brought why new

-- why a commit is not recorded; the calls accepted before that stay
abbrev pub StopsRecording : Commit → Place → RepositoryBook → Reason → RepositoryBook → Type 0
StopsRecording commit place old why new =
    StopsCopying place.first place.spares.items old why new
    ⊎ (StopsAfterSpares commit place old why new ⊎ StopsAtCopies commit place old why new)

-- Ok: the commit is recorded; else why it is not
abbrev pub RecordsOr : Commit → Place → RepositoryBook → Result Bool Reason → RepositoryBook → Type 0
RecordsOr commit place old (Ok pulled) new = RecordsCommit commit place pulled old new
RecordsOr commit place old (Err why) new = StopsRecording commit place old why new

-- catches lead to the tree of a commit, and have the patch of its first parent
pub record HoldsCommit (commit : Commit) (catches : List Catch) : Type 0 where
  pub leads : LeadsTo catches commit.tree
  pub parent : first_lacked catches (parents_to_have false commit.parents.items) ≡ None

-- why catches that have the patch of a commit don't hold it
abbrev pub DoesNotHold : Commit → List Catch → Reason → Type 0
DoesNotHold commit catches reason.OtherTree = ¬ (LeadsTo catches commit.tree)
DoesNotHold commit catches (reason.LacksParent name) = first_lacked catches (parents_to_have false commit.parents.items) ≡ Some name
DoesNotHold commit catches other = ⊥

-- Ok: catches hold a commit; else why they don't
abbrev pub HoldsOr : Commit → List Catch → Result (Unit {0}) Reason → Type 0
HoldsOr commit catches (Ok done) = HoldsCommit commit catches
HoldsOr commit catches (Err why) = DoesNotHold commit catches why

-- the result for a commit whose patch is known. Ok: the catches hold it, and it is skipped; else why they don't hold it
abbrev pub PassesOr : Commit → List Catch → Result Imported Reason → Type 0
PassesOr commit catches (Ok PassedOver) = HoldsCommit commit catches
PassesOr commit catches (Ok (Recorded pulled)) = ⊥
PassesOr commit catches (Err why) = DoesNotHold commit catches why

-- the result of an import, given the catches that are known by the commit's id. None: the commit is recorded, or there
-- is a reason why not; else nothing changes, and the commit is skipped if the catches hold it
abbrev pub ImportsAs : Commit → Place → (known : Option (List Catch)) → RepositoryBook → Result Imported Reason → RepositoryBook → Type 0
ImportsAs commit place None old (Ok PassedOver) new = ⊥
ImportsAs commit place None old (Ok (Recorded pulled)) new = RecordsCommit commit place pulled old new
ImportsAs commit place None old (Err why) new = StopsRecording commit place old why new
ImportsAs commit place (Some catches) old result new = (new ≡ old) × PassesOr commit catches result

-- Ok: the commit is skipped or recorded; else neither, and the fault names it
abbrev pub ImportsCommit : Commit → Place → Moments → RepositoryBook → Result Imported ImportFault → RepositoryBook → Type 0
ImportsCommit commit place moments old (Ok imported) new =
    ImportsAs commit place (moment_of moments.branches commit.id) old (Ok imported) new
ImportsCommit commit place moments old (Err fault) new =
    (fault.commit ≡ commit.id) × ImportsAs commit place (moment_of moments.branches commit.id) old (Err fault.why) new
