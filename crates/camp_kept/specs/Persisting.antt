-- The accepted calls and the notes of a repository, as texts in a file.
use Rattle.std.specs.Prelude.{◌≡◌, ◌⊎◌, ◌<◌, ◌≤◌, ℕ, Bool, false, List, [], ◌∷◌, drop, length}
use Rattle.camp_call.specs.declared.calls.Call.{Call}
use Rattle.camp_kept.specs.Accepting.{AreAccepted, IsPrefixOf, StoreContents, accepted_of, empty_within}
use Rattle.camp_kept.specs.Entries.{AreStoredEntries, AreInPlace}
use Rattle.camp_kept.specs.Titles.{title_of}
use Rattle.camp_kept.specs.declared.faults.PersistenceFault.{PersistenceFault}
use Rattle.camp_kept.specs.declared.faults.PersistenceFault.TheVariants as fault
use Rattle.camp_kept.specs.declared.repositories.DurableRepository.{DurableRepository}
use Rattle.camp_notes.specs.declared.logs.PlacedNote.{PlacedNote}
use Rattle.camp_repo.specs.Limits.{Bounds}
use Rattle.camp_store.specs.Blocks.{DecodesTo}
use Rattle.camp_store.specs.Logs.{PersistsTexts, disk_of, may_append}
use Rattle.camp_store.specs.declared.logs.Log.{Log}
use Rattle.camp_store.specs.declared.faults.StoreFault.TheVariants as store

-- the most bytes of a file without a text that counts as a new store
abbrev pub max_untitled_len : ℕ
max_untitled_len = 80

-- the texts of a store with these contents: its title, which contains its limits, and entries with its calls and notes
pub record AreStoreTexts (stored : StoreContents) (texts : List (List ℕ)) : Type 0 where
  pub others : List (List ℕ)
  pub title : texts ≡ title_of stored.limits ∷ others
  pub entries : AreStoredEntries 0 stored.calls stored.notes others

-- these texts are a store with these contents; or there are no texts yet, no calls and notes, and the limits that a new
-- store would get
abbrev pub AreTexts : Bounds → List (List ℕ) → StoreContents → Type 0
AreTexts new texts stored = AreStoreTexts stored texts ⊎ ((texts ≡ []) × (stored ≡ empty_within new))

-- the file decodes to these contents: its texts are a store with them; or it has no text and few bytes, and the
-- contents are the limits that a new store would get, without calls and notes
pub record DecodesToCalls (new : Bounds) (stored : StoreContents) (file : List ℕ) : Type 0 where
  pub texts : List (List ℕ)
  pub are : AreTexts new texts stored
  pub decodes : DecodesTo texts file
  pub short : texts ≡ [] → length file ≤ max_untitled_len

-- the file is a store with these contents: it has its title and entries with its calls and notes, and each call is
-- accepted after those before it
pub record IsStoreOf (stored : StoreContents) (file : List ℕ) : Type 0 where
  pub texts : List (List ℕ)
  pub are : AreStoreTexts stored texts
  pub decodes : DecodesTo texts file
  pub accepted : AreAccepted stored

-- two properties of a disk: what a read returns, and what a crash may leave
module _ {D : Type 0} (seen : D → List ℕ) (may_leave : D → List ℕ → Type 0) where
  -- an open log persists the texts of a store with these contents
  pub record PersistsStore (stored : StoreContents) (log : Log D) : Type 0 where
    pub texts : List (List ℕ)
    pub are : AreStoreTexts stored texts
    pub persists : PersistsTexts seen may_leave texts log

  -- the title, these calls, each accepted after those before it, and these notes are durable, and the repository knows
  -- the numbers of the calls and of the notes
  pub record PersistsCalls (stored : StoreContents) (repository : DurableRepository D) : Type 0 where
    pub accepted : AreAccepted stored
    pub texts : PersistsStore stored repository.log
    pub count_is : repository.durable_count ≡ length stored.calls
    pub notes_is : repository.durable_notes ≡ length stored.notes

  -- whatever a crash leaves decodes to these contents
  abbrev pub LeavesCalls : Bounds → StoreContents → D → Type 0
  LeavesCalls new stored disk = (c : List ℕ) → may_leave disk c → DecodesToCalls new stored c

-- the disk of a durable repository
abbrev pub disk_in : {D : Type 0} → DurableRepository D → D
disk_in repository = disk_of repository.log

-- the contents that a durable repository has in memory, durable or not
abbrev pub accepted_by : {D : Type 0} → DurableRepository D → StoreContents
accepted_by repository = accepted_of repository.book repository.notes

-- the length of the torn tail that the file had when it was opened, in bytes
abbrev pub torn_tail_len_in : {D : Type 0} → DurableRepository D → ℕ
torn_tail_len_in repository = repository.torn_tail_len

-- the limits, and a prefix of the accepted calls and of the notes, of a durable repository
abbrev pub AreFirstCalls : {D : Type 0} → StoreContents → DurableRepository D → Type 0
AreFirstCalls stored repository = IsPrefixOf stored (accepted_by repository)

-- the number of accepted calls that are known to be durable
abbrev pub durable_count_in : {D : Type 0} → DurableRepository D → ℕ
durable_count_in repository = repository.durable_count

-- the number of notes that are known to be durable
abbrev pub durable_notes_in : {D : Type 0} → DurableRepository D → ℕ
durable_notes_in repository = repository.durable_notes

-- the book has fewer calls, or the repository fewer notes, than are known to be durable, so they are not those that were
-- persisted; others with as many calls and notes are not told apart
abbrev pub HasFewerCalls : {D : Type 0} → DurableRepository D → Type 0
HasFewerCalls repository =
    (length (accepted_by repository).calls < durable_count_in repository)
    ⊎ (length (accepted_by repository).notes < durable_notes_in repository)

-- the accepted calls that are not known to be durable
abbrev pub waiting_calls : {D : Type 0} → DurableRepository D → List Call
waiting_calls repository = drop (durable_count_in repository) (accepted_by repository).calls

-- the notes that are not known to be durable
abbrev pub waiting_notes : {D : Type 0} → DurableRepository D → List PlacedNote
waiting_notes repository = drop (durable_notes_in repository) (accepted_by repository).notes

-- a note that is not known to be durable has a wrong number of calls before it: fewer than are durable, fewer than a
-- note before it, or more than there are
abbrev pub HasMisplacedNotes : {D : Type 0} → DurableRepository D → Type 0
HasMisplacedNotes repository =
    ¬ (AreInPlace (durable_count_in repository) (length (accepted_by repository).calls) (waiting_notes repository))

-- the texts of the calls and notes that are not known to be durable
abbrev pub AreWaitingTexts : {D : Type 0} → DurableRepository D → List (List ℕ) → Type 0
AreWaitingTexts repository texts =
    AreStoredEntries (durable_count_in repository) (waiting_calls repository) (waiting_notes repository) texts

-- no commit has failed at the disk
abbrev pub may_commit : {D : Type 0} → DurableRepository D → Bool
may_commit repository = may_append repository.log

-- what is left after a commit that is not acknowledged: the unchanged repository or, if the disk has failed, one that
-- commits no more
abbrev pub LeavesRepository : {D : Type 0} → PersistenceFault → DurableRepository D → DurableRepository D → Type 0
LeavesRepository (fault.Store (store.Disk error)) old new = may_commit new ≡ false
LeavesRepository (fault.Store store.Memory) old new = new ≡ old
LeavesRepository (fault.Store store.TooLong) old new = new ≡ old
LeavesRepository (fault.Store (store.Damaged texts at)) old new = new ≡ old
LeavesRepository (fault.Store store.Failed) old new = new ≡ old
LeavesRepository fault.Memory old new = new ≡ old
LeavesRepository fault.NoStore old new = new ≡ old
LeavesRepository (fault.Damaged call at) old new = new ≡ old
LeavesRepository (fault.OtherLimits catches branches) old new = new ≡ old

-- a disk to which nothing was written: a read returns the same, and a crash leaves one of the same files
pub record IsUntouched {D : Type 0} (seen : D → List ℕ) (may_leave : D → List ℕ → Type 0) (old new : D) : Type 0 where
  pub same : seen new ≡ seen old
  pub no_more : (c : List ℕ) → may_leave new c → may_leave old c
