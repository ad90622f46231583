use Rattle.std.proofs.Common.{List, ℕ, subst}
use Rattle.camp_import.specs.Parts.{part_name}
use Rattle.camp_importer.proofs.BranchLemmas.{plainly_fails}
use Rattle.camp_importer.specs.Calling.{OrFails}
use Rattle.camp_importer.specs.Steps.{RecordsBy, RecordsPatch}
use Rattle.camp_importer.proofs.part_records.record_at.Goals as goal

pub returns-in-Ok : goal.returns-in-Ok
returns-in-Ok c =
    subst (λ (own : List ℕ). OrFails (RecordsPatch own c.args.branch.now c.args.part.now) (RecordsBy own c.args.branch.now c.args.part.now) c.args.branch.now c.args.book.now c.record_part.result c.record_part.new.book) c.in-Ok.ensures c.record_part.ensures

pub returns-in-Err : goal.returns-in-Err
returns-in-Err c =
    plainly_fails (RecordsBy (part_name c.args.name c.args.index c.args.count) c.args.branch.now c.args.part.now) c.args.branch.now c.args.book.now c.in-Err.why c.in-Err.ensures
