use Rattle.std.proofs.Common.{List, subst}
use Rattle.camp_prim.specs.declared.primitives.Primitive.{Primitive}
use Rattle.camp_importer.proofs.BranchLemmas.{plainly_fails}
use Rattle.camp_importer.specs.Calling.{OrFails}
use Rattle.camp_importer.specs.Steps.{RecordsBy, RecordsPatch}
use Rattle.camp_importer.specs.declared.faults.Reason.TheVariants as reason
use Rattle.camp_importer.proofs.part_records.record_part.Goals as goal

pub returns-in-Ok-Some : goal.returns-in-Ok-Some
returns-in-Ok-Some c =
    let found = rw c.in-Ok-Some.field-0-is at c.in-Ok-Some.ensures in
    subst (λ (part : List Primitive). OrFails (RecordsPatch c.args.name c.args.branch.now part) (RecordsBy c.args.name c.args.branch.now part) c.args.branch.now c.args.book.now c.record_patch.result c.record_patch.new.book) found.0 c.record_patch.ensures.exact

pub returns-in-Ok-None : goal.returns-in-Ok-None
returns-in-Ok-None c =
    plainly_fails (RecordsBy c.args.name c.args.branch.now c.args.part.now) c.args.branch.now c.args.book.now reason.TooManyChanges tt

pub returns-in-Err : goal.returns-in-Err
returns-in-Err c =
    plainly_fails (RecordsBy c.args.name c.args.branch.now c.args.part.now) c.args.branch.now c.args.book.now reason.Memory tt
