use Rattle.camp_import.proofs.CommitTreeLemmas.{entry_set_by}
use Rattle.camp_import.proofs.commit_trees.set_entry.Goals as goal

pub returns : goal.returns
returns c =
    entry_set_by c.args.mode c.args.content.now c.args.path.now c.deref-2.result.now c.deref.result.now c.deref-3.result.now c.args.changed.now _
    c.deref-2.ensures.value c.deref.ensures.value c.deref-3.ensures.value c.in_ok-tree.ensures.exact c.in_ok-paths.ensures
