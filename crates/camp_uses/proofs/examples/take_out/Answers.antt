use Rattle.camp_uses.proofs.Words.{subst, Applies}
use Rattle.camp_prim.specs.Laws.{CommuteLaws}
use Rattle.camp_uses.proofs.Once.{taken_out}
use Rattle.camp_uses.proofs.examples.take_out.Goals as goal

pub returns : goal.returns
returns c =
    let laws : CommuteLaws c.args.p.now c.args.q.now c.in-Some.alone c.in-Some.last = rw c.in-Some.is at c.in_ok-alone.ensures.laws in
    let undone = subst (λ change. Applies change.prim c.args.tree.now c.apply.new.tree) c.invert.ensures.exact c.in_ok-apply.ensures.exact in
    record { left = λ old leads. taken_out c.applied_is_applies.ensures.law c.inverse_leads_back.ensures.law c.args.p.now c.args.q.now c.in-Some.alone c.in-Some.last laws.effect old c.args.tree.now c.apply.new.tree undone leads }
