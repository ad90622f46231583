use Rattle.camp_uses.proofs.Words.{subst}
use Rattle.camp_seq.specs.Running.{AppliesAll}
use Rattle.camp_uses.proofs.lists.after_both.Goals as goal

pub returns : goal.returns
returns c = (
  c.apply_all.new.tree,
  subst (λ tree. AppliesAll c.args.first.now tree c.apply_all.new.tree) c.in_ok-changed.ensures.exact c.in_ok-apply_all.ensures.exact,
  c.in_ok-apply_all-2.ensures.exact,
)
