use Rattle.camp_base.proofs.Words.{Removes}
use Rattle.camp_base.proofs.TreeLemmas.{answered, removes_file}
use Rattle.camp_base.proofs.trees.Tree.remove_file.Goals as goal

pub returns-in-Some : goal.returns-in-Some
returns-in-Some c = record { exact = answered (Removes c.args.path.now) _ _ _ _ (removes_file c.args.path.now _ _ c.in-Some.ensures.exact _ c.is_empty.ensures.exact c.if-is_empty.true) c.erase.ensures }
