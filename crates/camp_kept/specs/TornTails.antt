-- The torn tail of a file: the bytes at its end that do not count.
use Rattle.std.specs.Prelude.{◌≡◌, ◌≤◌, ℕ, ◌+◌, ◌==◌, List, [], ◌∷◌, ◌++◌, length, if◌then◌else◌}
use Rattle.camp_kept.specs.Accepting.{AreAccepted, StoreContents}
use Rattle.camp_kept.specs.Persisting.{AreTexts, max_untitled_len}
use Rattle.camp_kept.specs.declared.inspections.Inspection.{Inspection}
use Rattle.camp_repo.specs.Limits.{default_bounds}
use Rattle.camp_store.specs.Blocks.{AreBlocks, IsEnd, chain, closed_mark, first_digest}

-- the length of the torn tail in the bytes after the last block: those after a closed mark, or all if there is none
abbrev pub torn_tail_len : List ℕ → ℕ
torn_tail_len [] = 0
torn_tail_len (mark ∷ rest) = if mark == closed_mark then length rest else length rest + 1

-- the file is the blocks of these texts and an end, with a torn tail of this length
pub record HasTornTail (texts : List (List ℕ)) (file : List ℕ) (count : ℕ) : Type 0 where
  pub front : List ℕ
  pub end : List ℕ
  pub split : file ≡ front ++ end
  pub are : AreBlocks first_digest texts front
  pub ends : IsEnd end
  pub count_is : count ≡ torn_tail_len end
  -- if a file has no text, it has few bytes
  pub short : texts ≡ [] → length file ≤ max_untitled_len

-- the result of an inspection: the numbers of calls in the file, each accepted after those before it, and of notes, the
-- digest of its texts, and the length of its torn tail
pub record IsInspection (file : List ℕ) (found : Inspection) : Type 0 where
  pub stored : StoreContents
  pub accepted : AreAccepted stored
  pub texts : List (List ℕ)
  pub are : AreTexts default_bounds texts stored
  pub count_is : found.calls ≡ length stored.calls
  pub notes_are : found.notes ≡ length stored.notes
  pub digest_is : found.digest ≡ chain first_digest texts
  pub leaves : HasTornTail texts file found.torn_tail_len
