use Rattle.camp_share.proofs.Words.{subst, All, All-tail, IsPart, arith, common_steps}
use Rattle.camp_share.proofs.iters.IterIterator.next.Goals as goal

pub invariant_of-self-in-Some : goal.invariant_of-self-in-Some
invariant_of-self-in-Some g c = All-tail IsPart _ _ (subst (All IsPart) c.in-Some.ensures.steps c.self.invariant)

pub returns-then-not-is_empty-clause-steps : goal.returns-then-not-is_empty-clause-steps
returns-then-not-is_empty-clause-steps g c = grind (arith, common_steps)

pub returns-in-Some-clause-steps : goal.returns-in-Some-clause-steps
returns-in-Some-clause-steps g c = grind (arith, common_steps)

pub returns-clause-steps : goal.returns-clause-steps
returns-clause-steps g c = grind (arith, common_steps)
