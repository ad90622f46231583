use Rattle.camp_branch.proofs.Words.{sym, subst, IsLawfulBranch, LeadsTo}
use Rattle.camp_branch.proofs.BranchFields.{Indexes, lawful_none, none_indexed}
use Rattle.camp_branch.proofs.branches.Branch.empty.Goals as goal

pub invariant_of-result : goal.invariant_of-result
invariant_of-result c =
    record {
      lawful = subst IsLawfulBranch (sym c.new.ensures.exact) lawful_none;
      named = subst (Indexes _) (sym c.new.ensures.exact) (none_indexed _ c.new-2.ensures.exact);
      kept = subst (λ l. LeadsTo l c.empty.result) (sym c.new.ensures.exact) c.empty.ensures.exact;
    }
