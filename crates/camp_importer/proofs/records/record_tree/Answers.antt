use Rattle.camp_importer.proofs.PartLemmas.{no_changes}
use Rattle.camp_importer.proofs.records.record_tree.Goals as goal

pub returns-in-Ok : goal.returns-in-Ok
returns-in-Ok c = c.record_changes.ensures c.args.tree.now c.in-Ok.ensures

pub returns-in-Err : goal.returns-in-Err
returns-in-Err c = no_changes c.args.name c.args.branch.now c.args.tree.now c.in-Err.why c.args.book.now c.in-Err.ensures
