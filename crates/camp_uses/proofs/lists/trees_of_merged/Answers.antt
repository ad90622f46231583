use Rattle.camp_uses.proofs.Once.{one_tree}
use Rattle.camp_uses.proofs.lists.trees_of_merged.Goals as goal

pub returns : goal.returns
returns c = record { same = one_tree c.applied_is_applies.ensures.law c.clean_merge_closes.ensures.law _ _ _ _ _ _ _ _ _ c.requires c.in_ok-here.ensures.1 c.in_ok-here.ensures.2 c.in_ok-there.ensures.1 c.in_ok-there.ensures.2 }
