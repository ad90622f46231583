use Rattle.std.proofs.Common.{◌≡◌, drop, take}
use Rattle.std.proofs.Common.{reverse}
use Rattle.camp_import.proofs.parts.take_part.Given as goal

abbrev pub invariant-part : goal.invariant-part
invariant-part l = record {
  taken : l.part.items ≡ take l.counter (reverse l.initial.changes.items);
  left : reverse l.changes.items ≡ drop l.counter (reverse l.initial.changes.items);
}
