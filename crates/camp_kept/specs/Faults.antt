-- Why a file is not a store, is not opened, or why calls are not persisted.
use Rattle.std.specs.Prelude.{◌≡◌, ◌⊎◌, ◌<◌, ◌≤◌, ◌^◌, ℕ, zero, suc, Bool, false, List, [], ◌∷◌, ◌++◌, length, Option, Result, MatchResult}
use Rattle.camp_kept.specs.Accepting.{AreAccepted, StoreContents}
use Rattle.camp_kept.specs.Entries.{StoredEntry, text_of_stored}
use Rattle.camp_kept.specs.Persisting.{AreStoreTexts, AreWaitingTexts, DecodesToCalls, HasFewerCalls, HasMisplacedNotes, max_untitled_len}
use Rattle.camp_kept.specs.Replaying.{CanBeNextEntry}
use Rattle.camp_kept.specs.Titles.{AreAsWanted, CanBeLimits, title_of}
use Rattle.camp_kept.specs.declared.faults.PersistenceFault.{PersistenceFault}
use Rattle.camp_kept.specs.declared.faults.PersistenceFault.TheVariants as persistence
use Rattle.camp_kept.specs.declared.repositories.DurableRepository.{DurableRepository}
use Rattle.camp_repo.specs.Limits.{Bounds}
use Rattle.camp_store.specs.Blocks.{AreBlocks, DecodesTo, IsBlock, IsEnd, chain, first_digest}
use Rattle.camp_store.specs.Counting.{ReportsFault}
use Rattle.camp_store.specs.Logs.{IsAppendFault, IsAppendable}
use Rattle.camp_store.specs.declared.faults.StoreFault.{StoreFault}
use Rattle.camp_store.specs.declared.faults.StoreFault.TheVariants as store

-- a fault of a log file, as one of a store: with damage before the first text it is not a store
abbrev pub fault_of : StoreFault → PersistenceFault
fault_of store.Memory = persistence.Memory
fault_of (store.Disk error) = persistence.Store (store.Disk error)
fault_of store.TooLong = persistence.Store store.TooLong
fault_of (store.Damaged zero at) = persistence.NoStore
fault_of (store.Damaged (suc texts) at) = persistence.Damaged (suc texts) at
fault_of store.Failed = persistence.Store store.Failed

-- a file is not a store: it does not begin with the block of a title, and it is not a new store, which has no text and
-- few bytes
pub record IsNoStore (file : List ℕ) : Type 0 where
  pub untitled : (limits : Bounds) → CanBeLimits limits → (after : List ℕ) → ¬ (IsBlock first_digest (title_of limits) after file)
  pub long : DecodesTo [] file → max_untitled_len < length file

-- at this offset, after these texts, neither a block nor an end begins
pub record IsNoBlock (texts : List (List ℕ)) (rest : List ℕ) : Type 0 where
  pub no_end : ¬ (IsEnd rest)
  pub no_block : (text after : List ℕ) → ¬ (IsBlock (chain first_digest texts) text after rest)

-- after a store of calls and notes there is at this offset the block of a text that decodes to no entry which can come
-- after them
pub record IsBlockOfNoCall (texts : List (List ℕ)) (rest : List ℕ) : Type 0 where
  pub before : StoreContents
  pub accepted : AreAccepted before
  pub are : AreStoreTexts before texts
  pub text : List ℕ
  pub after : List ℕ
  pub block : IsBlock (chain first_digest texts) text after rest
  pub none : (entry : StoredEntry) → text_of_stored entry ≡ text → ¬ (CanBeNextEntry before.limits before.calls entry)

-- the reported number is this one, or this one does not fit in 64 bits
abbrev pub ReportsNumber : ℕ → ℕ → Type 0
ReportsNumber reported number = (reported ≡ number) ⊎ (2 ^ 64 ≤ number)

-- a file is damaged at the entry of this number, counted from 1, and at the offset `at`: the blocks of the title and of
-- the entries before it end there, and no block follows of an entry that can come after them
pub record IsDamagedAt (call at : ℕ) (file : List ℕ) : Type 0 where
  pub texts : List (List ℕ)
  pub some : 0 < length texts
  pub front : List ℕ
  pub rest : List ℕ
  pub split : file ≡ front ++ rest
  pub are : AreBlocks first_digest texts front
  pub call_is : ReportsNumber call (length texts)
  pub at_is : ReportsNumber at (length front)
  pub wrong : IsNoBlock texts rest ⊎ IsBlockOfNoCall texts rest

-- the file is a store with these limits, which are not the wanted ones
pub record HasOtherLimits (wanted : Option Bounds) (limits : Bounds) (file : List ℕ) : Type 0 where
  pub range : CanBeLimits limits
  pub texts : List (List ℕ)
  pub decodes : DecodesTo (title_of limits ∷ texts) file
  pub unwanted : ¬ (AreAsWanted wanted limits)

-- why the bytes of a file are refused. NoStore: they are not a store. Damaged: at this entry they do not decode to one
-- that can come after those before it. OtherLimits: they are a store, but not with the wanted limits. Memory: memory
-- ran out.
abbrev pub RefusesFile : Option Bounds → PersistenceFault → List ℕ → Type 0
RefusesFile wanted persistence.Memory file = Unit {0}
RefusesFile wanted persistence.NoStore file = IsNoStore file
RefusesFile wanted (persistence.Damaged call at) file =
    IsDamagedAt call at file × ((new : Bounds) (stored : StoreContents) → AreAccepted stored → ¬ (DecodesToCalls new stored file))
RefusesFile wanted (persistence.OtherLimits catches branches) file =
    HasOtherLimits wanted (record { catches = catches; branches = branches }) file
RefusesFile wanted (persistence.Store fault) file = ⊥

-- a fault that comes from the bytes of the file: they are not a store, are damaged, or are a store with other limits
abbrev pub IsContentFault : PersistenceFault → Type 0
IsContentFault persistence.NoStore = Unit {0}
IsContentFault (persistence.Damaged call at) = Unit {0}
IsContentFault (persistence.OtherLimits catches branches) = Unit {0}
IsContentFault other = ⊥

-- the bytes of a file are refused: it is not a store, is damaged, or is a store with other limits than the wanted ones
pub record IsRefusedFile (wanted : Option Bounds) (file : List ℕ) : Type 0 where
  pub why : PersistenceFault
  pub of_contents : IsContentFault why
  pub refuses : RefusesFile wanted why file

-- no disk fault is reported
abbrev pub IsNoDiskFault : PersistenceFault → Type 0
IsNoDiskFault (persistence.Store fault) = ⊥
IsNoDiskFault other = Unit {0}

-- a disk fault is reported only if a disk call has failed, and any other fault only if none has
abbrev pub ReportsDiskFault : PersistenceFault → ℕ → ℕ → Type 0
ReportsDiskFault (persistence.Store fault) old new = ReportsFault fault old new
ReportsDiskFault other old new = new ≡ old

-- after `Ok`, and after any fault but one of the disk, no disk call has failed; after a disk fault, one has
abbrev pub CountsDiskFaults : {T : Type 0} → Result T PersistenceFault → ℕ → ℕ → Type 0
CountsDiskFaults result old new = MatchResult result (λ _. new ≡ old) (λ why. ReportsDiskFault why old new)

-- why a disk is not opened: its bytes are refused, or a disk call has failed. Failed: one had failed before, so the
-- disk may not be used
abbrev pub RefusesToOpen : Bool → Option Bounds → PersistenceFault → List ℕ → Type 0
RefusesToOpen usable wanted (persistence.Store (store.Disk error)) file = Unit {0}
RefusesToOpen usable wanted (persistence.Store store.Failed) file = usable ≡ false
RefusesToOpen usable wanted (persistence.Store store.Memory) file = ⊥
RefusesToOpen usable wanted (persistence.Store store.TooLong) file = ⊥
RefusesToOpen usable wanted (persistence.Store (store.Damaged count at)) file = ⊥
RefusesToOpen usable wanted persistence.Memory file = RefusesFile wanted persistence.Memory file
RefusesToOpen usable wanted persistence.NoStore file = RefusesFile wanted persistence.NoStore file
RefusesToOpen usable wanted (persistence.Damaged call at) file = RefusesFile wanted (persistence.Damaged call at) file
RefusesToOpen usable wanted (persistence.OtherLimits catches branches) file =
    RefusesFile wanted (persistence.OtherLimits catches branches) file

-- why a file that is a store with these limits is not opened: memory, the disk, or other wanted limits. Failed: a disk
-- call had failed before
abbrev pub IsOpeningFault : Bool → Option Bounds → Bounds → PersistenceFault → Type 0
IsOpeningFault usable wanted limits persistence.Memory = Unit {0}
IsOpeningFault usable wanted limits persistence.NoStore = ⊥
IsOpeningFault usable wanted limits (persistence.Damaged call at) = ⊥
IsOpeningFault usable wanted limits (persistence.OtherLimits catches branches) =
    (limits ≡ record { catches = catches; branches = branches }) × ¬ (AreAsWanted wanted limits)
IsOpeningFault usable wanted limits (persistence.Store (store.Disk error)) = Unit {0}
IsOpeningFault usable wanted limits (persistence.Store store.Failed) = usable ≡ false
IsOpeningFault usable wanted limits (persistence.Store store.Memory) = ⊥
IsOpeningFault usable wanted limits (persistence.Store store.TooLong) = ⊥
IsOpeningFault usable wanted limits (persistence.Store (store.Damaged count at)) = ⊥

-- why no title was appended: memory ran out, or the disk has failed
abbrev pub IsTitleFault : PersistenceFault → Type 0
IsTitleFault persistence.Memory = Unit {0}
IsTitleFault persistence.NoStore = ⊥
IsTitleFault (persistence.Damaged call at) = ⊥
IsTitleFault (persistence.OtherLimits catches branches) = ⊥
IsTitleFault (persistence.Store (store.Disk error)) = Unit {0}
IsTitleFault (persistence.Store store.Failed) = ⊥
IsTitleFault (persistence.Store store.Memory) = ⊥
IsTitleFault (persistence.Store store.TooLong) = ⊥
IsTitleFault (persistence.Store (store.Damaged count at)) = ⊥

-- why calls are not persisted: memory ran out, the disk has failed, now or before, a text or the file would be too
-- long, there are fewer calls or notes than were persisted, or a note is misplaced. That a file is not a store, or is
-- damaged, is not reported here
abbrev pub IsCommitFault : PersistenceFault → Type 0
IsCommitFault persistence.Memory = Unit {0}
IsCommitFault persistence.NoStore = ⊥
IsCommitFault (persistence.Damaged call at) = ⊥
IsCommitFault (persistence.OtherLimits catches branches) = ⊥
IsCommitFault (persistence.Store store.Memory) = ⊥
IsCommitFault (persistence.Store (store.Disk error)) = Unit {0}
IsCommitFault (persistence.Store store.TooLong) = Unit {0}
IsCommitFault (persistence.Store (store.Damaged count at)) = ⊥
IsCommitFault (persistence.Store store.Failed) = Unit {0}

-- the texts of the calls and notes that are not known to be durable are too long: that of an entry does not fit in a block,
-- or the file would have 2^64 bytes or more
pub record HasLongTexts {D : Type 0} (is_usable : D → Bool) (repository : DurableRepository D) : Type 0 where
  pub texts : List (List ℕ)
  pub are : AreWaitingTexts repository texts
  pub long : IsAppendFault is_usable repository.log texts store.TooLong

-- when these faults are reported. Failed: there are fewer calls or notes than are known to be durable, a note is
-- misplaced, an earlier commit has failed at the disk, or the disk may not be used; TooLong: the texts of what is not
-- known to be durable are too long
abbrev pub RefusesToCommit : {D : Type 0} → (D → Bool) → DurableRepository D → PersistenceFault → Type 0
RefusesToCommit is_usable repository (persistence.Store store.Failed) =
    HasFewerCalls repository ⊎ (HasMisplacedNotes repository ⊎ ¬ (IsAppendable is_usable repository.log))
RefusesToCommit is_usable repository (persistence.Store store.TooLong) = HasLongTexts is_usable repository
RefusesToCommit is_usable repository (persistence.Store store.Memory) = ⊥
RefusesToCommit is_usable repository (persistence.Store (store.Disk error)) = Unit {0}
RefusesToCommit is_usable repository (persistence.Store (store.Damaged count at)) = ⊥
RefusesToCommit is_usable repository persistence.Memory = Unit {0}
RefusesToCommit is_usable repository persistence.NoStore = ⊥
RefusesToCommit is_usable repository (persistence.Damaged call at) = ⊥
RefusesToCommit is_usable repository (persistence.OtherLimits catches branches) = ⊥
