-- A keeper that is full and its parts own what a box at the same types owns.
use mir.Syntax.{impl, tnil, dnil}
use mathlib.Core.List.{[]}
use denote.Signature.{Slot, plain}
use Rattle.std_alloc.proofs.BoxSteps.Form.{Bx}
use Rattle.std_heap.specs.contracts.Global as Heap
use Rattle.std_heap.specs.contracts.GlobalAllocator.TheImpl.{ghosts, dict}
use Rattle.std_heap.proofs.Global.TheLaws as heap
use Rattle.camp_c.specs.contracts.objects.OpenObject as OpenObject
use Rattle.camp_c.proofs.objects.OpenObject.TheLaws as object
use Rattle.camp_c.specs.contracts.parts.Parts as Parts
use Rattle.camp_c.specs.contracts.handles.Keeper as Keeper

abbrev pub E : Bx
E = record { row = OpenObject.the_row; laws = object.the_row_laws; al = record { row = Heap.the_row; laws = heap.the_row_laws; g = ghosts; d = dict; drops = impl [] tnil dnil } }

abbrev pub FromParts : Slot 0
FromParts = plain (λ _. Parts.the_row OpenObject.the_row Heap.the_row ghosts)

abbrev pub FromKeeper : Slot 0
FromKeeper = plain (λ _. Keeper.the_row)
