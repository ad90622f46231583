use Rattle.camp_base.proofs.Words.{Adds}
use Rattle.camp_base.proofs.TreeLemmas.{answered, adds_file}
use Rattle.camp_base.proofs.trees.Tree.add_file.Goals as goal

pub returns : goal.returns
returns c = record { exact = answered (Adds c.args.path.now) _ _ _ _ (adds_file c.args.path.now _ _ _ _ c.self.view_is c.contains_key.ensures.exact c.if-contains_key.false c.new-lines.ensures.exact) c.write.ensures }
