use Rattle.camp_uses.proofs.Words.{subst, Applies}
use Rattle.camp_uses.proofs.patches.after.Goals as goal

pub returns : goal.returns
returns c = record {
  between = _;
  first = subst (λ tree. Applies c.args.p.now.prim tree c.apply.new.tree) c.in_ok-changed.ensures.exact c.in_ok-apply.ensures.exact;
  second = c.in_ok-apply-2.ensures.exact;
}
