use Rattle.camp_base.proofs.TreeLemmas.{trees_decided}
use Rattle.camp_base.proofs.trees.Tree.is_same.Goals as goal

pub returns : goal.returns
returns c = record { exact = trees_decided _ _ _ _ c.self.view_is c.other.view_is c.len.ensures.ordered c.len-2.ensures.ordered _ c.eq.ensures }
