use Rattle.camp_import.proofs.CommitTreeLemmas.{all_deleted}
use Rattle.camp_import.proofs.commit_trees.delete_all.Goals as goal

pub returns : goal.returns
returns c = all_deleted c.args.changed.now _ _ c.empty-tree.ensures.exact c.in_ok-share.ensures c.in_ok-paths.ensures
