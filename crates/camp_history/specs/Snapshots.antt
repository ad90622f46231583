-- How a snapshot is related to the store of its calls, to its parent, and to a seat that has seen less.
use Rattle.std.specs.Prelude.{◌≡◌, ℕ, ◌<◌, ◌≤◌, List, ◌∷◌, [], ◌++◌, map, length, drop, take, slice_index_or, All, IfSome}
use Rattle.boxcar.specs.Slot.{Named}
use Rattle.boxcar.specs.Table.{Shelves, Where}
use Rattle.camp_object.specs.Histories.{IsBeginning}
use Rattle.camp_row.specs.Chains as chain
use Rattle.camp_history.specs.Seats.{SeatState, Based, IsBaseAt, entry_of, entry_and_call}
use Rattle.camp_history.specs.declared.marks.Mark.{Mark}
use Rattle.camp_history.specs.declared.snapshots.Base.{Base}
use Rattle.camp_history.specs.declared.snapshots.ParentLink.{ParentLink}

-- the numbers that identify a store of calls
abbrev pub ids : Shelves → List ℕ
ids store = map (λ bucket. bucket.id) store.buckets

-- the token belongs to the store with these numbers
abbrev pub IsIn : {Call : Type 0} → List ℕ → Where Call → Type 0
IsIn ids token = token.row ≡ slice_index_or ids token.bucket 0

-- the numbers that identify slots
abbrev pub ids_of : List Named → List ℕ
ids_of slots = map (λ slot. slot.id) slots

-- a snapshot in a slot, as contracts see it
abbrev pub based : {State Call Reply : Type 0} → Base State Call Reply → Based Call
based base = record { slot = base.slot; id = base.snapshot.of; marks = base.snapshot.value }

-- the noted snapshots, each as contracts see it
abbrev pub bases_in : {State Call Reply : Type 0} → List (Base State Call Reply) → List (Based Call)
bases_in bases = map based bases

-- a list of marks begins with the entries and calls of another list of marks
abbrev pub IsMarkPrefix : {Call : Type 0} → List (Mark Call) → List (Mark Call) → Type 0
IsMarkPrefix beginning whole = IsBeginning (map entry_and_call beginning) (map entry_and_call whole)

-- a snapshot begins with the calls of its parent, and both are in the slots with these numbers
pub record IsMadeFrom {State Call Reply : Type 0} (ids : List ℕ) (link : ParentLink State Call Reply) : Type 0 where
  pub snapshot : IsBaseAt ids (based link.snapshot)
  pub parent : IfSome link.parent (λ base. IsBaseAt ids (based base))
  pub begins : IfSome link.parent (λ base. IsMarkPrefix base.snapshot.value link.snapshot.snapshot.value)

-- a snapshot in a slot, with more than `seen` and at most `reach` calls
pub record IsWithinReach {State Call Reply : Type 0} (ids : List ℕ) (seen reach : ℕ) (link : ParentLink State Call Reply) (len : ℕ)
    : Type 0 where
  pub lies : IsMadeFrom ids link
  pub length_is : len ≡ length link.snapshot.snapshot.value
  pub beyond : seen < len
  pub within : len ≤ reach

-- the first `count` calls of a seat and of a snapshot are the same
pub record HaveCommon {Call : Type 0} (seat snapshot : List (Mark Call)) (count : ℕ) : Type 0 where
  pub same : take count (map entry_and_call seat) ≡ take count (map entry_and_call snapshot)
  pub in_seat : count ≤ length seat
  pub in_snapshot : count ≤ length snapshot

-- the marks of a snapshot without its first ones, as many as the seat has marks
abbrev pub news : {State Call : Type 0} → SeatState State Call → List (Mark Call) → List (Mark Call)
news seat snapshot = drop (length seat.marks) snapshot

-- a snapshot continues what a seat has seen: its first calls are those of the seat, and its other entries come next in
-- the chain that the seat has found, each of a seat of the row
pub record ContinuesSeat {State Call : Type 0} (seat : SeatState State Call) (snapshot : List (Mark Call)) : Type 0 where
  pub begins : IsMarkPrefix seat.marks snapshot
  pub ahead : chain.IsPrefix (seat.known.seen ++ map entry_of (news seat snapshot)) seat.known.ahead
  pub below : All (λ mark. mark.seat < seat.known.row.seats) (news seat snapshot)

-- a seat after it installed a snapshot
pub record Installs {State Call : Type 0} (old : SeatState State Call) (snapshot : List (Mark Call)) (new : SeatState State Call) : Type 0 where
  pub first : new.first ≡ old.first
  pub marks : new.marks ≡ snapshot
  pub bases : new.bases ≡ old.bases
  pub known : new.known ≡ record old.known { seen = old.known.seen ++ map entry_of (news old snapshot) }

-- the marks of all calls that a seat has seen, followed by one for a further call of the seat
abbrev pub made_of : {State Call : Type 0} → SeatState State Call → Where Call → List (Mark Call)
made_of seat call = seat.marks ++ record { seat = seat.known.number; call = call } ∷ []
