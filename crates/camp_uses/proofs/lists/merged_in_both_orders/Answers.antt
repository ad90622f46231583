use Rattle.camp_uses.proofs.lists.merged_in_both_orders.Goals as goal

pub trees_of_merged-requires : goal.trees_of_merged-requires
trees_of_merged-requires c = rw c.in-Some.is at c.in_ok-behind_a.ensures.exact
