use Rattle.std.proofs.Common.{◌≡◌, ◌∙◌, List, Some, sym, ap, subst, arith, take_all}
use Rattle.std.proofs.lemmas.List.{take_more}
use Rattle.std.proofs.lemmas.Option.{slice_get-get_or}
use Rattle.camp_import.proofs.CommitTreeLemmas.{fails_at_index, one_more, tree_all, tree_start}
use Rattle.camp_import.proofs.commit_trees.tree_after.Goals as goal

pub changes-init : goal.changes-init
changes-init c = tree_start c.args.changes.now c.args.old.now c.in-Ok.changed c.in-Ok.ensures

pub returns-in-Err-change_tree : goal.returns-in-Err-change_tree
returns-in-Err-change_tree c = record {
  exact = fails_at_index c.args.changes.now c.index-changes-index.result c.changes.index c.in-Err-change_tree.why _ c.args.old.now c.changes.changed c.fault_at-in-Err-change_tree.ensures
      c.changes-test.true c.index-changes-index.is c.in-Err-change_tree.ensures c.changes.invariant;
}

pub changes-preserved : goal.changes-preserved
changes-preserved c =
    one_more c.args.changes.now c.changes.index c.index-changes-index.result c.args.old.now c.changes.changed c.in-Ok-change_tree.next
    c.changes-test.true c.index-changes-index.is c.in-Ok-change_tree.ensures c.changes.invariant

pub returns : goal.returns
returns c = record {
  exact = tree_all c.args.changes.now c.changes.index c.args.old.now c.changes.changed (take_all c.changes.index c.args.changes.now c.changes-test.false) c.changes.invariant;
}
