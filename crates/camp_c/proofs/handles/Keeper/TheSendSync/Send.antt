use Rattle.std.specs.Prelude.{Option, Some, None}
use mir.Raw.{raw}
use base.Shift.{Keyless}
use denote.RawPtr.{Ptr}
use Rattle.std.specs.Global.{Global}
use Rattle.camp_c.specs.Owned.{keeper_owns}
use denote.Memory.{lone}
use denote.Struct.Struct.{exits_of}
use denote.Struct.Owning.{shape, fields, to}
use denote.Param.Send.{IsSend, AllSend, owning_send, struct_send, sendable}
use Rattle.std.proofs.Crossing as heap
use Rattle.std_alloc.proofs.SendSync.{quiet, lies}
use Rattle.std_heap.proofs.Global.TheSendSync as handle
use Rattle.camp_c.specs.contracts.objects.OpenObject as OpenObject
use Rattle.camp_c.proofs.objects.OpenObject.TheSendSync.{the_send as object_send}
use Rattle.camp_c.specs.contracts.handles.Keeper.{the_row, the_type}

keyless_object : (a : Global) (p : Ptr) (s : Option OpenObject.the_row.Denot) → Keyless (keeper_owns a p s)
keyless_object a p (Some x) = (lies OpenObject.the_row object_send p x, heap.frees.frees a (raw (lone OpenObject.the_row.mir)) p)
keyless_object a p None = tt

pub send : IsSend the_row
send =
    let all : AllSend (fields the_type) = (search sendable, (handle.the_field_send, tt)) in
    owning_send the_type all (λ k. keyless_object k.alloc k.at k.held)
    (λ k. quiet (to the_type) (exits_of k (fields the_type)) ((struct_send (shape the_type) all).leaving k))
