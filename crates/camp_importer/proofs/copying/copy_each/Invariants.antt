use Rattle.std.proofs.Common.{take}
use Rattle.camp_importer.specs.Copies.{CopiesEach}
use Rattle.camp_importer.proofs.copying.copy_each.Given as goal

abbrev pub invariant-loop-copy : goal.invariant-loop-copy
invariant-loop-copy l = CopiesEach l.from (take l.copy-index l.copies) l.initial.book l.book
