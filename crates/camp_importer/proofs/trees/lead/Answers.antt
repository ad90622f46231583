use Rattle.camp_importer.proofs.MarkLemmas.{found_or}
use Rattle.camp_importer.proofs.trees.lead.Goals as goal

pub returns-in-Ok : goal.returns-in-Ok
returns-in-Ok c =
    found_or c.args.name.now c.args.old.now c.args.tree.now c.marked_if_empty.result (c.marked_if_empty.ensures c.args.old.now c.in-Ok.ensures.exact)
