-- What a keeper owns: nothing, or a box with the value of a handle.
use Rattle.std.specs.Prelude.{Option, Some, None}
use Rattle.std.specs.Coded.{coded_option}
use base.Fml.{Fml, ftrue}
use base.Stored.{Coded}
use denote.RawPtr.{Ptr}
use Rattle.std.specs.Box.Ownership.{box_owns}
use Rattle.std.specs.Global.{Global}
use Rattle.std_heap.specs.contracts.GlobalAllocator.TheImpl.{ghosts}
use Rattle.camp_c.specs.contracts.objects.OpenObject.{the_row}

-- the value of an open handle
abbrev pub Held : Type 0
Held = the_row.Denot

-- the pointer of a keeper owns the box with this value; without a value it owns nothing
abbrev pub keeper_owns : Global → Ptr → Option Held → Fml
keeper_owns alloc at (Some held) = box_owns (ghosts.dealloc_token alloc) the_row at held
keeper_owns alloc at None = ftrue

abbrev pub held_coded : Coded (Option Held)
held_coded = coded_option the_row.coded
