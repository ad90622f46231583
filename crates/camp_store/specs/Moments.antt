-- What a crash may leave at each moment of successive writes and syncs.
use Rattle.camp_store.specs.Blocks.{DecodesTo, chain, open_mark}
use Rattle.camp_store.specs.Logs.{IsBatch, IsBeforeOrAfter, Persists}
use Rattle.std.specs.Prelude.{◌+◌, ◌-◌, [], ◌∷◌, ◌++◌, drop, ℕ, List, length}
use Rattle.sqlite_disk.specs.Disk.{Holds, Torn, Follows, Only}

-- two properties of a file: what a read returns, and what a crash may leave
module _ {D : Type 0} (seen : D → List ℕ) (may_leave : D → List ℕ → Type 0) where
  -- a write of n bytes at this offset is in progress; after a crash it may be complete, torn or absent
  abbrev pub WriteBegun : ℕ → ℕ → D → D → Type 0
  WriteBegun at n before now = Follows (Torn at n) (may_leave before) (may_leave now)

  -- these bytes are written and durable, and all others are unchanged
  pub record WrittenAndSynced (at : ℕ) (bytes : List ℕ) (before now : D) : Type 0 where
    pub begun : WriteBegun at (length bytes) before now
    pub others : Torn at (length bytes) (seen before) (seen now)
    pub written : Holds (seen now) at bytes
    pub durable : Only (seen now) (may_leave now)

  -- the moments of appending a batch, with what a crash may leave at each
  pub record EachMoment (old new : List (List ℕ)) (digest bytes : List ℕ) (at : ℕ) (before : D) : Type 0 where
    -- the bytes after the first mark of the batch are being written and synced
    pub staging : (now : D) → WriteBegun (at + 1) (length bytes - 1) before now → (c : List ℕ) → may_leave now c → DecodesTo old c
    -- the bytes after the first mark are durable, and that mark is being written and synced
    pub opening : (staged now : D) → WrittenAndSynced (at + 1) (drop 1 bytes) before staged → WriteBegun at 1 staged now
        → (c : List ℕ) → may_leave now c → IsBeforeOrAfter old new c
    -- the first mark is durable too
    pub durable : (staged now : D) → WrittenAndSynced (at + 1) (drop 1 bytes) before staged → WrittenAndSynced at (open_mark ∷ []) staged now
        → Persists seen may_leave (old ++ new) now (at + length bytes - 1) (chain digest new)

  -- a batch is appended as a whole, at each moment
  abbrev pub BatchesAreAtomic : Type 0
  BatchesAreAtomic =
      (old new : List (List ℕ)) (digest bytes : List ℕ) (at : ℕ) (before : D) → IsBatch digest new bytes → Persists seen may_leave old before at digest
      → EachMoment old new digest bytes at before
