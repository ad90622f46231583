-- A head in its fields, and its invariant.
use Rattle.std.specs.Prelude.{◌≡◌, ◌==◌, ◌<◌, ℕ, ◌+◌, ◌*◌, ◌/◌, if◌then◌else◌, length, All}
use Rattle.camp_history.specs.Seats.{HeadId}
use Rattle.camp_history.specs.Snapshots.{ids, ids_of}
use Rattle.camp_history.specs.declared.heads.Head.TheInside.{Inside}

abbrev pub head_id : {State Call Reply : Type 0} → Inside State Call Reply → HeadId State
head_id head =
    record { row = head.row; store = head.calls; slots = ids_of head.snapshots.items; tries = head.tries; first = head.first }

-- the number of slots for snapshots at positions: one for each multiple of `every` up to the most accepted calls, and
-- none if `every` is 0
abbrev pub position_slots : (seats per_seat every : ℕ) → ℕ
position_slots seats per_seat every = if every == 0 then 0 else (seats * per_seat) / every

-- the number of slots for published snapshots: one for each seat, and none if no snapshots are kept
abbrev pub seat_slots : (seats every : ℕ) → ℕ
seat_slots seats every = if every == 0 then 0 else seats

-- the slot with this number is the one for this position; the position is a multiple of `every`
abbrev pub IsSlotFor : (position every number : ℕ) → Type 0
IsSlotFor position every number = (0 < every) × ((number + 1) * every ≡ position)

-- the invariant of a head: it tries a call at least once; it has a slot for each position at which a snapshot is kept
-- and one for each seat, all for calls of its store, and as many slots for the parents of the snapshots
pub record IsHead {State Call Reply : Type 0} (head : Inside State Call Reply) : Type 0 where
  pub tries : 0 < head.tries
  pub slots : All (λ slot. slot.tag ≡ ids head.calls) head.snapshots.items
  pub slot_count :
      length head.snapshots.items
      ≡ position_slots head.row.seats head.row.per_seat head.every + seat_slots head.row.seats head.every
  pub parents : All (λ slot. slot.tag ≡ ids_of head.snapshots.items) head.parents.items
  pub parent_count : length head.parents.items ≡ length head.snapshots.items
