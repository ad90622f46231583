use Rattle.std.proofs.Common.{List, map, subst}
use Rattle.std.specs.Global.{Vec}
use Rattle.camp_prim.specs.declared.primitives.Primitive.{Primitive}
use Rattle.camp_importer.proofs.PartLemmas.{no_memory, tree_recorded_or}
use Rattle.camp_importer.specs.Calling.{OrFails}
use Rattle.camp_importer.specs.Parts.{RecordsOnePart, RecordsParts}
use Rattle.camp_importer.proofs.records.record_changes.Goals as goal

pub returns-in-Ok : goal.returns-in-Ok
returns-in-Ok c = λ tree from.
    tree_recorded_or c.args.name c.args.branch.now tree c.args.changes (map (λ part. part.items) c.in-Ok.parts.items) c.args.book.now c.record_parts.new.book c.record_parts.result from c.in-Ok.ensures.exact c.in-Ok.ensures.sized
    (subst (λ (parts : List (Vec Primitive)). OrFails (RecordsParts c.args.name c.args.branch.now (map (λ part. part.items) parts)) (RecordsOnePart c.args.name c.args.branch.now) c.args.branch.now c.args.book.now c.record_parts.result c.record_parts.new.book) c.deref.ensures.value c.record_parts.ensures)

pub returns-in-Err : goal.returns-in-Err
returns-in-Err c = λ tree from. no_memory c.args.name c.args.branch.now tree c.args.book.now
