use Rattle.camp_branch.proofs.Words.{ap, ◌∙◌, has_patch}
use Rattle.camp_branch.proofs.branches.Branch.has_patch.Goals as goal

pub returns : goal.returns
returns c = record {
  exact =
      c.contains_key.ensures.exact ∙ c.self.invariant.named c.args.name.now ∙ ap (λ l. has_patch l c.args.name.now) c.self.view_is;
}
