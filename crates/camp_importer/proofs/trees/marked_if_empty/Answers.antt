use Rattle.std.proofs.Common.{arith, sym}
use Rattle.std.proofs.lemmas.Bool.{eqb-false, eqb-true}
use Rattle.std.proofs.lemmas.List.{nil_from_length}
use Rattle.std.specs.Vec.{vec_len}
use Rattle.camp_importer.proofs.MarkLemmas.{marked_or}
use Rattle.camp_importer.proofs.PartLemmas.{not_none}
use Rattle.camp_importer.proofs.trees.marked_if_empty.Goals as goal

pub returns-then-is_empty : goal.returns-then-is_empty
returns-then-is_empty c = λ old leads.
    marked_or c.args.name.now c.args.changes.items old c.args.tree.now c.mark.result leads
    (nil_from_length c.args.changes.items (omega (arith, c.args.changes.ok.0, eqb-true (vec_len c.args.changes) 0 (sym c.if-is_empty.ensures)))) c.mark.ensures

pub returns : goal.returns
returns c = λ old leads.
    record {
      leads = leads;
      some = not_none c.args.changes.items (omega (arith, c.args.changes.ok.0, eqb-false (vec_len c.args.changes) 0 (sym c.if-is_empty.ensures)));
    }
