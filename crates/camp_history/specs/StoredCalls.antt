-- A call stored for a head, which can be executed at its seats.
use Rattle.std.specs.Prelude.{Option, IfSome}
use Rattle.boxcar.specs.Table.{Where, Shows}
use Rattle.camp_history.specs.Seats.{HeadId}

-- the call and, if it writes, its token in a store
pub record StoredCall (Call : Type 0) : Type 0 where
  pub call : Call
  pub stored : Option (Where Call)

-- a call is stored for this head: its token, if it has one, belongs to the head's store
abbrev pub IsStoredIn : {State Call : Type 0} → HeadId State → StoredCall Call → Type 0
IsStoredIn head kept = IfSome kept.stored (λ stored. Shows head.store stored)
