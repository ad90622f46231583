use Rattle.camp_branch.proofs.Words.{sym, subst, slice_cmp, nat_cmp, map_of, IsLawfulBranch}
use Rattle.camp_branch.proofs.BranchFields.{appended, taken_fits, taken_indexed, taken_lead}
use Rattle.camp_branch.proofs.branches.Branch.with_taken.Goals as goal

pub tree_after-requires : goal.tree_after-requires
tree_after-requires c = record {
  fits = taken_fits c.self.inside.catches c.args.self.now c.args.taken.now c.self.inside.tree c.self.view_is c.self.invariant.kept c.requires;
}

pub invariant_of-result : goal.invariant_of-result
invariant_of-result c =
    let becomes = appended c.self.inside.catches c.args.self.now c.args.taken.now c.in_ok-catches.catches c.len-end.result c.len-end.ensures.exact c.self.view_is c.in_ok-catches.ensures.exact in
    record {
      lawful = subst IsLawfulBranch (sym becomes) c.requires;
      named = taken_indexed (map_of (slice_cmp nat_cmp) c.self.inside.names) (map_of (slice_cmp nat_cmp) c.in_ok-names.names) _ _ c.args.taken.now _ c.self.invariant.named c.self.view_is c.in_ok-names.ensures becomes;
      kept = taken_lead _ _ c.args.taken.now _ c.self.inside.tree c.in_ok-tree.tree c.self.view_is becomes c.self.invariant.kept c.in_ok-tree.ensures;
    }
