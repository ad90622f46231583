-- A durable repository in a conversation: what requests and commits do to it.
use Rattle.std.specs.Prelude.{◌≡◌, ◌⊎◌, ℕ, Bool, false, List, Result, Err, IfErr, OnOk}
use Rattle.camp_kept.specs.Accepting.{StoreContents}
use Rattle.camp_kept.specs.Faults.{CountsDiskFaults, IsCommitFault}
use Rattle.camp_kept.specs.Persisting.{AreFirstCalls, IsStoreOf, LeavesRepository, PersistsCalls, accepted_by, disk_in, may_commit}
use Rattle.camp_kept.specs.declared.faults.PersistenceFault.{PersistenceFault}
use Rattle.camp_kept.specs.declared.faults.PersistenceFault.TheVariants as fault
use Rattle.camp_kept.specs.declared.repositories.DurableRepository.{DurableRepository}
use Rattle.camp_object.specs.Books.{IsEarlier}
use Rattle.camp_store.specs.declared.faults.StoreFault.TheVariants as store_fault

-- requests were executed: nothing but the book has changed, and no call was removed from it
pub record SharesStore {D : Type 0} (before after : DurableRepository D) : Type 0 where
  pub same : after ≡ record before { book = after.book }
  pub grows : IsEarlier before.book after.book

-- the fault of a commit after one that has failed at the disk
abbrev pub stopped_fault : PersistenceFault
stopped_fault = fault.Store store_fault.Failed

module _ {D : Type 0} (seen : D → List ℕ) (may_leave : D → List ℕ → Type 0) where
  -- at least these first calls of a repository are durable
  abbrev pub PersistsFirst : StoreContents → DurableRepository D → Type 0
  PersistsFirst stored kept = AreFirstCalls stored kept × PersistsCalls seen may_leave stored kept

  -- whatever a crash leaves is a store of these calls, or of all accepted calls
  abbrev pub MayLeave : StoreContents → DurableRepository D → Type 0
  MayLeave stored kept = (c : List ℕ) → may_leave (disk_in kept) c → IsStoreOf stored c ⊎ IsStoreOf (accepted_by kept) c

  -- after a failed commit the same calls are durable or, if the disk has failed, no further commit is possible
  abbrev pub LeavesDurable : PersistenceFault → StoreContents → DurableRepository D → Type 0
  LeavesDurable (fault.Store (store_fault.Disk error)) stored new = may_commit new ≡ false
  LeavesDurable other stored new = PersistsCalls seen may_leave stored new

  module _ (faults : D → ℕ) (is_clean : D → Bool) where
    -- a commit. Ok: all accepted calls are durable. An error: the repository is unchanged or, if the disk has failed,
    -- commits no more. In any case a crash leaves the calls that were durable before, or all. If no commit was possible,
    -- it fails and nothing changes.
    pub record CommitsStore (old : DurableRepository D) (result : Result (Unit {0}) PersistenceFault) (new : DurableRepository D) : Type 0 where
      pub book : new.book ≡ old.book
      pub notes : new.notes ≡ old.notes
      pub acknowledged : (stored : StoreContents) → PersistsFirst stored old → OnOk result (PersistsCalls seen may_leave (accepted_by new) new)
      pub crash : (stored : StoreContents) → PersistsFirst stored old → MayLeave stored new
      pub leaves : IfErr result (λ why. LeavesRepository why old new)
      pub stopped : may_commit old ≡ false → (result ≡ Err stopped_fault) × (new ≡ old)
      pub counts : CountsDiskFaults result (faults (disk_in old)) (faults (disk_in new))
      pub fault : IfErr result IsCommitFault
      pub clean : is_clean (disk_in new) ≡ is_clean (disk_in old)
