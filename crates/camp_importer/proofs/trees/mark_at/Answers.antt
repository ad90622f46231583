use Rattle.camp_importer.proofs.MarkLemmas.{marked}
use Rattle.camp_importer.proofs.trees.mark_at.Goals as goal

pub returns-in_ok-add_and_remove-in-None : goal.returns-in_ok-add_and_remove-in-None
returns-in_ok-add_and_remove-in-None c =
    marked c.args.tree.now c.args.path c.in_ok-add_and_remove-in-None.field-0 c.in-None.ensures.exact c.in_ok-add_and_remove-in-None.ensures

pub returns-in-Some : goal.returns-in-Some
returns-in-Some c = (c.in-Some.field-0.now, c.in-Some.ensures.exact)
