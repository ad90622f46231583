use Rattle.camp_importer.proofs.RecordLemmas.{records_or}
use Rattle.camp_importer.proofs.recording.record_patch.Goals as goal

pub returns : goal.returns
returns c = record {
  exact = records_or c.args.name.now c.args.branch.now c.args.changes c.args.book.now c.execute.new.book c.execute.result c.prims-prims.ensures.sized c.execute.ensures;
}
