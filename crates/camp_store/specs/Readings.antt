-- Decoding a file.
use Rattle.std.specs.Prelude.{◌≡◌, List, ℕ, Bool, false, ◌++◌, length}
use Rattle.camp_store.specs.Blocks.{AreBlocks, DecodesTo, IsBlock, IsEnd, chain, first_digest, is_closed}
use Rattle.camp_store.specs.Logs.{texts_of}
use Rattle.camp_store.specs.declared.faults.StoreFault.{StoreFault}
use Rattle.camp_store.specs.declared.faults.StoreFault.TheVariants.{Damaged, Disk, Failed, Memory}
use Rattle.camp_store.specs.declared.readings.Reading.{Reading}

-- the file is the blocks of the texts of a reading, and an end; the other fields of the reading describe these
pub record IsDecodedFrom (file : List ℕ) (reading : Reading) : Type 0 where
  pub front : List ℕ
  pub end : List ℕ
  pub split : file ≡ front ++ end
  pub are : AreBlocks first_digest (texts_of reading.texts.items) front
  pub ends : IsEnd end
  pub length_is : reading.length ≡ length front
  pub tail_len_is : reading.tail_len ≡ length end
  pub digest_is : reading.digest ≡ chain first_digest (texts_of reading.texts.items)
  pub closed_is : reading.is_closed ≡ is_closed end

-- after `count` texts, at offset `at`, neither a block nor an end begins
pub record IsDamaged (count at : ℕ) (file : List ℕ) : Type 0 where
  pub texts : List (List ℕ)
  pub front : List ℕ
  pub rest : List ℕ
  pub split : file ≡ front ++ rest
  pub are : AreBlocks first_digest texts front
  pub count_is : count ≡ length texts
  pub at_is : at ≡ length front
  pub no_end : ¬ (IsEnd rest)
  pub no_block : (text after : List ℕ) → ¬ (IsBlock (chain first_digest texts) text after rest)

-- damage is reported only at an offset where the file is damaged
abbrev pub ReportsDamage : StoreFault → List ℕ → Type 0
ReportsDamage (Damaged count at) file = IsDamaged count at file
ReportsDamage other file = Unit {0}

-- why bytes are not decoded: memory ran out, or they are damaged
abbrev pub IsDecodeFault : StoreFault → Type 0
IsDecodeFault Memory = Unit {0}
IsDecodeFault (Damaged count at) = Unit {0}
IsDecodeFault other = ⊥

-- why a disk is not read: memory, damage; Disk: a disk call has failed; Failed: one had failed before, so the disk may
-- not be used
abbrev pub IsReadingFault : Bool → StoreFault → Type 0
IsReadingFault usable (Disk error) = Unit {0}
IsReadingFault usable Failed = usable ≡ false
IsReadingFault usable other = IsDecodeFault other

-- why reading a disk that can be used fails: out of memory, or a disk call has failed
abbrev pub IsAccessFault : StoreFault → Type 0
IsAccessFault Memory = Unit {0}
IsAccessFault (Disk error) = Unit {0}
IsAccessFault other = ⊥

-- a damaged file does not decode to any texts
abbrev pub DamagedFilesDoNotDecode : Type 0
DamagedFilesDoNotDecode = (count at : ℕ) (file : List ℕ) → IsDamaged count at file → (texts : List (List ℕ)) → ¬ (DecodesTo texts file)
