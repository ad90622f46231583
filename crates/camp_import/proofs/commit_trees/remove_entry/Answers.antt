use Rattle.camp_import.proofs.CommitTreeLemmas.{entry_removed}
use Rattle.camp_import.proofs.commit_trees.remove_entry.Goals as goal

pub returns : goal.returns
returns c =
    entry_removed c.args.path.now c.args.changed.now _ c.in_ok-tree.ensures.exact c.in_ok-paths.ensures
