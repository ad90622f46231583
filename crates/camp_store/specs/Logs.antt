-- A log: texts that are persisted in a file.
use Rattle.std.specs.Prelude.{◌≡◌, ◌⊎◌, ◌<◌, ◌≤◌, ◌+◌, ◌^◌, ℕ, Bool, false, not, IsTrue, List, [], ◌∷◌, ◌++◌, length, map, Vec}
use Rattle.std.specs.declared.alloc.Global.{Global}
use Rattle.sqlite_disk.specs.Disk.{Only}
use Rattle.camp_store.specs.Blocks.{AllFit, AreBlocks, DecodesTo, blocks, chain, closed_mark, first_digest}
use Rattle.camp_store.specs.declared.faults.StoreFault.{StoreFault}
use Rattle.camp_store.specs.declared.faults.StoreFault.TheVariants.{Damaged, Disk, Failed, Memory, TooLong}
use Rattle.camp_store.specs.declared.logs.Log.{Log}

-- vectors of bytes, as texts
abbrev pub texts_of : List (Vec ℕ Global) → List (List ℕ)
texts_of texts = map (λ text. text.items) texts

-- the disk persists these texts: its file is durable and has their blocks, a closed mark, and perhaps bytes after it;
-- `length_known` is the length of the blocks, and `digest_known` the digest of the texts
pub record Persists {D : Type 0} (seen : D → List ℕ) (may_leave : D → List ℕ → Type 0) (texts : List (List ℕ)) (disk : D)
    (length_known : ℕ) (digest_known : List ℕ) : Type 0 where
  pub front : List ℕ
  pub after : List ℕ
  pub file : seen disk ≡ front ++ closed_mark ∷ after
  pub are : AreBlocks first_digest texts front
  pub length_is : length_known ≡ length front
  pub digest_is : digest_known ≡ chain first_digest texts
  pub durable : Only (seen disk) (may_leave disk)

-- the file decodes to the old texts, with all of the new ones or none
abbrev pub IsBeforeOrAfter : List (List ℕ) → List (List ℕ) → List ℕ → Type 0
IsBeforeOrAfter texts new file = DecodesTo texts file ⊎ DecodesTo (texts ++ new) file

-- the bytes are the blocks of some texts and a closed mark; `before` is the digest of the texts before them
pub record IsBatch (before : List ℕ) (texts : List (List ℕ)) (bytes : List ℕ) : Type 0 where
  pub some : 0 < length texts
  pub fit : AllFit texts
  pub are : bytes ≡ blocks before texts ++ closed_mark ∷ []

-- the disk of a log
abbrev pub disk_of : {D : Type 0} → Log D → D
disk_of log = log.disk

-- no append to the log has failed
abbrev pub may_append : {D : Type 0} → Log D → Bool
may_append log = not log.has_failed

-- an open log persists these texts
abbrev pub PersistsTexts : {D : Type 0} → (D → List ℕ) → (D → List ℕ → Type 0) → List (List ℕ) → Log D → Type 0
PersistsTexts seen may_leave texts log = Persists seen may_leave texts log.disk log.length log.digest

-- texts are rejected before any disk call: memory ran out, or one of them does not fit in a block
abbrev pub IsEncodeFault : List (List ℕ) → StoreFault → Type 0
IsEncodeFault texts Memory = Unit {0}
IsEncodeFault texts TooLong = ¬ (AllFit texts)
IsEncodeFault texts other = ⊥

-- why no closed mark was written. Disk: a disk call has failed. Failed: one had failed before, so the disk may not be
-- used
abbrev pub IsMarkFault : Bool → StoreFault → Type 0
IsMarkFault usable (Disk error) = Unit {0}
IsMarkFault usable Failed = usable ≡ false
IsMarkFault usable other = ⊥

-- the offset at which the file ends after these texts and a closed mark are appended
abbrev pub end_offset : {D : Type 0} → Log D → List (List ℕ) → ℕ
end_offset log texts = log.length + length (blocks log.digest texts) + 1

-- a write ends at offset `end`: no crash leaves a file longer than that, unless it was longer before
abbrev pub StaysWithin : {D : Type 0} → (D → List ℕ) → (D → List ℕ → Type 0) → ℕ → D → D → Type 0
StaysWithin seen may_leave end old new =
    (most : ℕ) → length (seen old) ≤ most → end ≤ most → (c : List ℕ) → may_leave new c → length c ≤ most

-- the log has not failed, and its disk may be used
abbrev pub IsAppendable : {D : Type 0} → (D → Bool) → Log D → Type 0
IsAppendable is_usable log = (log.has_failed ≡ false) × IsTrue (is_usable log.disk)

-- why a batch is not appended. Memory: memory ran out. Disk: a disk call has failed. TooLong: a text does not fit in a
-- block, or the file would have 2^64 bytes or more. Failed: a disk call had failed before
abbrev pub IsAppendFault : {D : Type 0} → (D → Bool) → Log D → List (List ℕ) → StoreFault → Type 0
IsAppendFault is_usable log texts Memory = Unit {0}
IsAppendFault is_usable log texts (Disk error) = Unit {0}
IsAppendFault is_usable log texts TooLong = ¬ (AllFit texts) ⊎ (2 ^ 64 ≤ end_offset log texts)
IsAppendFault is_usable log texts (Damaged count at) = ⊥
IsAppendFault is_usable log texts Failed = ¬ (IsAppendable is_usable log)

-- what is left after a batch that is not acknowledged: the unchanged log or, if a disk call has failed, a failed log
abbrev pub LeavesLog : {D : Type 0} → StoreFault → Log D → Log D → Type 0
LeavesLog (Disk error) old new = may_append new ≡ false
LeavesLog (Damaged texts at) old new = ⊥
LeavesLog other old new = new ≡ old
